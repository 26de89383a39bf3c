-- What joins a declared connection and the connection by numbers.
use Rattle.std.proofs.Common.{◌≡◌, ℕ, suc, zero, ◌+◌, ◌<◌, ◌≤◌, List, [], ◌∷◌, length, refl, ap, sym, ◌∙◌, arith, get_or, ◌++◌, drop, take, append_assoc, subst}
use Rattle.std.specs.Prelude.{All, IsSome, Option, None, Some, slice_get}
use Rattle.std.specs.Option.{option_map, option_and_then}
use Rattle.std.specs.List.{filter_map, cons_option}
use Rattle.std.proofs.lemmas.List.{length-map, drop_more, get_or_default, take_all}
use Rattle.std.proofs.lemmas.List.Elements.{All-head, All-tail}
use Rattle.std.proofs.lemmas.Option.{slice_get_within, slice_get-get_or}
use Rattle.network.specs.Connection.{Connection}
use Rattle.plan_slots.specs.declared.slots.Slots.{Slots}
use Rattle.plan.specs.declared.draft.Federate.{Federate}
use Rattle.plan_names.specs.declared.port.PortName.{PortName}
use Rattle.plan.specs.declared.draft.ConnectionDraft.{ConnectionDraft}
use Rattle.plan.specs.declared.draft.Draft.{Draft}
use Rattle.plan_names.specs.Naming.{place_of}
use Rattle.plan_slots.specs.Numbering.{first_input}
use Rattle.plan.specs.Federation.{Found, federate_names, federate_number, place_in, found_in, found_output, found_input, delay_after, connection_of, connections_of}
use Rattle.plan.specs.Faults.{ArePortsThere, HasTwoSources}
use Rattle.plan_paths.specs.Sources.{EndsTwice}
use Rattle.plan_names.proofs.Places.{slice_get-place_of}
use Rattle.plan_names.proofs.Twice.{mapped_at}

-- ---- what was found

-- the parts of what was found: o is the federate's number, and g gives the place at each number
found_parts : (o : Option ℕ) (g : ℕ → Option ℕ) (r : Found)
    → option_and_then (λ number. option_map (λ place. record { federate = number; place = place }) (g number)) o ≡ Some r
    → (o ≡ Some r.federate) × (g r.federate ≡ Some r.place)
found_parts None g r e = cc
found_parts (Some n) g r e = placed (g n) refl e
  where
    placed : (p : Option ℕ) → g n ≡ p
        → option_map (λ place. record { federate = n; place = place }) p ≡ Some r
        → (Some n ≡ Some r.federate) × (g r.federate ≡ Some r.place)
    placed None h e = cc
    placed (Some k) h e =
        let both : record { federate = n; place = k } ≡ r = cc in
        let number : n ≡ r.federate = ap (λ (z : Found). z.federate) both in
        let place : k ≡ r.place = ap (λ (z : Found). z.place) both in
        (ap (λ m. Some m) number, sym (ap g number) ∙ h ∙ ap (λ m. Some m) place)

pub found_in_parts : (names_of : Slots → List (List ℕ)) (fs : List Federate) (a b : List ℕ) (r : Found)
    → found_in names_of fs a b ≡ Some r
    → (federate_number fs a ≡ Some r.federate) × (place_in names_of (slice_get fs r.federate) b ≡ Some r.place)
found_in_parts names_of fs a b r e =
    found_parts (federate_number fs a) (λ number. place_in names_of (slice_get fs number) b) r e

-- a name of a federate that is there
abbrev pub IsThere : (Slots → List (List ℕ)) → List Federate → Found → Type 0
IsThere names_of fs found = (f : Federate) × (slice_get fs found.federate ≡ Some f) × (found.place < length (names_of f.slots))

placed : (names_of : Slots → List (List ℕ)) (o : Option Federate) (b : List ℕ) (k : ℕ) → place_in names_of o b ≡ Some k
    → (f : Federate) × (o ≡ Some f) × (k < length (names_of f.slots))
placed names_of None b k e = cc
placed names_of (Some f) b k e = (f, refl, slice_get_within (names_of f.slots) k b (slice_get-place_of (names_of f.slots) b k e))

-- what is found is there
pub found_at : (names_of : Slots → List (List ℕ)) (fs : List Federate) (a b : List ℕ) (r : Found) → found_in names_of fs a b ≡ Some r
    → IsThere names_of fs r
found_at names_of fs a b r e = placed names_of (slice_get fs r.federate) b r.place (found_in_parts names_of fs a b r e).1

-- a number that is found is a federate's
pub federate_number-lt : (fs : List Federate) (a : List ℕ) (i : ℕ) → federate_number fs a ≡ Some i → i < length fs
federate_number-lt fs a i e =
    let below : i < length (federate_names fs) = slice_get_within (federate_names fs) i a (slice_get-place_of (federate_names fs) a i e) in
    omega (arith, length-map fs (λ (f : Federate). f.name))

-- names at one place are one
pub same_name : (names : List (List ℕ)) (a b : List ℕ) (i : ℕ) → place_of names a ≡ Some i → place_of names b ≡ Some i → a ≡ b
same_name names a b i at_a at_b =
    let here : slice_get names i ≡ Some a = slice_get-place_of names a i at_a in
    let there : slice_get names i ≡ Some b = slice_get-place_of names b i at_b in
    cc

pub same_name_in : (names_of : Slots → List (List ℕ)) (o : Option Federate) (a b : List ℕ) (i : ℕ)
    → place_in names_of o a ≡ Some i → place_in names_of o b ≡ Some i → a ≡ b
same_name_in names_of None a b i at_a at_b = cc
same_name_in names_of (Some f) a b i at_a at_b = same_name (names_of f.slots) a b i at_a at_b

abbrev port_of : List ℕ → List ℕ → PortName
port_of a b = record { federate = a; port = b }

-- one input port has one name
pub found_input-injective : (fs : List Federate) (p q : PortName) (r : Found) → found_input fs p ≡ Some r → found_input fs q ≡ Some r → p ≡ q
found_input-injective fs p q r at_p at_q =
    let p_parts : (federate_number fs p.federate ≡ Some r.federate) × (place_in (λ s. s.inputs) (slice_get fs r.federate) p.port ≡ Some r.place)
    = found_in_parts (λ s. s.inputs) fs p.federate p.port r at_p in
    let q_parts : (federate_number fs q.federate ≡ Some r.federate) × (place_in (λ s. s.inputs) (slice_get fs r.federate) q.port ≡ Some r.place)
    = found_in_parts (λ s. s.inputs) fs q.federate q.port r at_q in
    let federate : p.federate ≡ q.federate = same_name (federate_names fs) p.federate q.federate r.federate p_parts.0 q_parts.0 in
    let port : p.port ≡ q.port = same_name_in (λ s. s.inputs) (slice_get fs r.federate) p.port q.port r.place p_parts.1 q_parts.1 in
    ap (λ a. port_of a p.port) federate ∙ ap (λ b. port_of q.federate b) port

-- ---- a connection by numbers, and the declared one

-- both ends, where a connection has a number
pub record Joins (fs : List Federate) (c : ConnectionDraft) (x : Connection) : Type 0 where
  pub from : Found
  pub to : Found
  pub from_is : found_output fs c.from ≡ Some from
  pub to_is : found_input fs c.to ≡ Some to
  pub source : x.source ≡ from.federate
  pub port : x.port ≡ from.place
  pub target : x.target ≡ to.federate
  pub slot : x.slot ≡ first_input + to.place
  pub delay : x.delay ≡ delay_after c.after

joined : (fs : List Federate) (c : ConnectionDraft) (x : Connection) (o p : Option Found) → found_output fs c.from ≡ o → found_input fs c.to ≡ p
    → option_and_then
    (λ from. option_map
    (λ to. record {
      source = from.federate;
      port = from.place;
      target = to.federate;
      slot = first_input + to.place;
      delay = delay_after c.after;
    })
    p)
    o ≡ Some x
    → Joins fs c x
joined fs c x None p from_is to_is e = cc
joined fs c x (Some from) None from_is to_is e = cc
joined fs c x (Some from) (Some to) from_is to_is e =
    let whole : record {
      source = from.federate;
      port = from.place;
      target = to.federate;
      slot = first_input + to.place;
      delay = delay_after c.after;
    } ≡ x = cc in
    record {
      from = from;
      to = to;
      from_is = from_is;
      to_is = to_is;
      source = sym (ap (λ (z : Connection). z.source) whole);
      port = sym (ap (λ (z : Connection). z.port) whole);
      target = sym (ap (λ (z : Connection). z.target) whole);
      slot = sym (ap (λ (z : Connection). z.slot) whole);
      delay = sym (ap (λ (z : Connection). z.delay) whole);
    }

pub joins_from_connection_of : (fs : List Federate) (c : ConnectionDraft) (x : Connection) → connection_of fs c ≡ Some x → Joins fs c x
joins_from_connection_of fs c x e = joined fs c x (found_output fs c.from) (found_input fs c.to) refl refl e

-- the number of a connection, of what its ports are
pub connection_of-is : (fs : List Federate) (c : ConnectionDraft) (from to : Found) (x : Connection)
    → found_output fs c.from ≡ Some from → found_input fs c.to ≡ Some to
    → x ≡ record { source = from.federate; port = from.place; target = to.federate; slot = first_input + to.place; delay = delay_after c.after }
    → connection_of fs c ≡ Some x
connection_of-is fs c from to x from_is to_is is = rw (from_is, to_is) (ap (λ (z : Connection). Some z) (sym is))

-- a connection both of whose ports are there has a number
pub connection_of-there : (fs : List Federate) (c : ConnectionDraft)
    → IsSome (found_output fs c.from) → IsSome (found_input fs c.to) → IsSome (connection_of fs c)
connection_of-there fs c from_there to_there = there (found_output fs c.from) (found_input fs c.to) from_there to_there
  where
    there : (o p : Option Found) → IsSome o → IsSome p
        → IsSome {T = Connection} (option_and_then
        (λ from. option_map
        (λ to. record {
          source = from.federate;
          port = from.place;
          target = to.federate;
          slot = first_input + to.place;
          delay = delay_after c.after;
        })
        p)
        o)
    there None p h k = cc
    there (Some from) None h k = cc
    there (Some from) (Some to) h k = refl

-- ---- lists of which each element gives something

length-cons_option : {Y : Type 0} (o : Option Y) (rest : List Y) → IsSome o → length (cons_option o rest) ≡ suc (length rest)
length-cons_option None rest h = cc
length-cons_option (Some y) rest h = refl

slice_get-cons_option-zero : {Y : Type 0} (o : Option Y) (rest : List Y) → IsSome o → slice_get (cons_option o rest) 0 ≡ o
slice_get-cons_option-zero None rest h = cc
slice_get-cons_option-zero (Some y) rest h = refl

slice_get-cons_option-suc : {Y : Type 0} (o : Option Y) (rest : List Y) (k : ℕ) → IsSome o → slice_get (cons_option o rest) (suc k) ≡ slice_get rest k
slice_get-cons_option-suc None rest k h = cc
slice_get-cons_option-suc (Some y) rest k h = refl

pub length-filter_map : {X Y : Type 0} (h : X → Option Y) (xs : List X) → All (λ x. IsSome (h x)) xs → length (filter_map h xs) ≡ length xs
length-filter_map h [] every = refl
length-filter_map h (x ∷ xs) every =
    length-cons_option (h x) (filter_map h xs) (All-head (λ x. IsSome (h x)) x xs every)
    ∙ ap (λ n. suc n) (length-filter_map h xs (All-tail (λ x. IsSome (h x)) x xs every))

pub slice_get-filter_map : {X Y : Type 0} (h : X → Option Y) (xs : List X) → All (λ x. IsSome (h x)) xs
    → (k : ℕ) (x : X) → slice_get xs k ≡ Some x → slice_get (filter_map h xs) k ≡ h x
slice_get-filter_map h [] every k x e = cc
slice_get-filter_map h (y ∷ xs) every zero x e =
    let same : y ≡ x = cc in
    slice_get-cons_option-zero (h y) (filter_map h xs) (All-head (λ x. IsSome (h x)) y xs every) ∙ ap h same
slice_get-filter_map h (y ∷ xs) every (suc k) x e =
    slice_get-cons_option-suc (h y) (filter_map h xs) k (All-head (λ x. IsSome (h x)) y xs every)
    ∙ slice_get-filter_map h xs (All-tail (λ x. IsSome (h x)) y xs every) k x e

-- one more element gives one more
pub filter_map_more : {X Y : Type 0} (h : X → Option Y) (xs : List X) (i : ℕ) (x : X) (y : Y) (done whole : List Y)
    → i < length xs → x ≡ get_or xs i x → h x ≡ Some y
    → done ++ filter_map h (drop i xs) ≡ whole → (done ++ y ∷ []) ++ filter_map h (drop (i + 1) xs) ≡ whole
filter_map_more h xs i x y done whole below here gives so_far =
    let rest : drop i xs ≡ get_or xs i x ∷ drop (i + 1) xs = drop_more xs i x below in
    let split : filter_map h (drop i xs) ≡ cons_option (h (get_or xs i x)) (filter_map h (drop (i + 1) xs)) = ap (filter_map h) rest in
    let first : h (get_or xs i x) ≡ Some y = ap h (sym here) ∙ gives in
    let more : filter_map h (drop i xs) ≡ y ∷ filter_map h (drop (i + 1) xs)
    = split ∙ ap (λ o. cons_option o (filter_map h (drop (i + 1) xs))) first in
    append_assoc done (y ∷ []) (filter_map h (drop (i + 1) xs)) ∙ ap (λ zs. done ++ zs) (sym more) ∙ so_far

-- ---- drafts all of whose ports are there

all_numbered : (d : Draft) → ArePortsThere d → All (λ c. IsSome (connection_of d.federates c)) d.connections
all_numbered d there k e below =
    connection_of-there d.federates (get_or d.connections k e) (there.from_outputs k e below) (there.to_inputs k e below)

pub length-connections_of : (d : Draft) → ArePortsThere d → length (connections_of d) ≡ length d.connections
length-connections_of d there = length-filter_map (connection_of d.federates) d.connections (all_numbered d there)

pub nowhere : Connection
nowhere = record { source = 0; port = 0; target = 0; slot = 0; delay = record { time = 0; microstep = 0 } }

-- the declared connection at a place and the one by numbers there
pub joins_at : (d : Draft) → ArePortsThere d → (k : ℕ) (c : ConnectionDraft) (x : Connection) → k < length d.connections
    → slice_get d.connections k ≡ Some c → Joins d.federates c (get_or (connections_of d) k x)
joins_at d there k c x below here =
    let same_length : length (connections_of d) ≡ length d.connections = length-connections_of d there in
    let numbered : slice_get (connections_of d) k ≡ connection_of d.federates c
    = slice_get-filter_map (connection_of d.federates) d.connections (all_numbered d there) k c here in
    let there : k < length (connections_of d) = omega arith in
    joins_from_connection_of d.federates c (get_or (connections_of d) k x)
    (sym numbered ∙ slice_get-get_or (connections_of d) k x there)

abbrev found_of : ℕ → ℕ → Found
found_of a b = record { federate = a; place = b }

-- two connections by numbers to one port are two declared ones to it
pub two_sources : (d : Draft) (by_number : List Connection) (place : ℕ) (c : ConnectionDraft) (p : PortName)
    → by_number ≡ connections_of d → ArePortsThere d → EndsTwice by_number place
    → c ≡ get_or d.connections place c → p ≡ c.to → HasTwoSources d p
two_sources d by_number place c p is there twice here named =
    let same_length : length (connections_of d) ≡ length d.connections = length-connections_of d there in
    let is_length : length by_number ≡ length (connections_of d) = ap length is in
    let later_below : place < length d.connections = let t : place < length by_number = twice.there in omega arith in
    let in_order : twice.first < place = twice.in_order in
    let first_below : twice.first < length d.connections = omega arith in
    let c1 : ConnectionDraft = get_or d.connections twice.first c in
    let first_here : slice_get d.connections twice.first ≡ Some c1 = slice_get-get_or d.connections twice.first c first_below in
    let later_here : slice_get d.connections place ≡ Some c
    = slice_get-get_or d.connections place c later_below ∙ ap (λ z. Some z) (sym here) in
    let first_joins : Joins d.federates c1 (get_or (connections_of d) twice.first nowhere)
    = joins_at d there twice.first c1 nowhere first_below first_here in
    let later_joins : Joins d.federates c (get_or (connections_of d) place nowhere)
    = joins_at d there place c nowhere later_below later_here in
    let targets : (get_or (connections_of d) twice.first nowhere).target ≡ (get_or (connections_of d) place nowhere).target
    = subst (λ xs. (get_or xs twice.first nowhere).target ≡ (get_or xs place nowhere).target) is (twice.target nowhere) in
    let slots : (get_or (connections_of d) twice.first nowhere).slot ≡ (get_or (connections_of d) place nowhere).slot
    = subst (λ xs. (get_or xs twice.first nowhere).slot ≡ (get_or xs place nowhere).slot) is (twice.slot nowhere) in
    let federates : first_joins.to.federate ≡ later_joins.to.federate = sym first_joins.target ∙ targets ∙ later_joins.target in
    let slot_sums : first_input + first_joins.to.place ≡ first_input + later_joins.to.place = sym first_joins.slot ∙ slots ∙ later_joins.slot in
    let places : first_joins.to.place ≡ later_joins.to.place = omega arith in
    let founds : first_joins.to ≡ later_joins.to
    = ap (λ a. found_of a first_joins.to.place) federates ∙ ap (λ b. found_of later_joins.to.federate b) places in
    let first_found : found_input d.federates c1.to ≡ Some later_joins.to = first_joins.to_is ∙ ap (λ z. Some z) founds in
    let same : c1.to ≡ c.to = found_input-injective d.federates c1.to c.to later_joins.to first_found later_joins.to_is in
    record {
      found = subst (λ q. IsSome (found_input d.federates q)) (sym (named ∙ ap (λ (z : ConnectionDraft). z.to) here)) (there.to_inputs place c later_below);
      twice = record {
        first = twice.first;
        later = place;
        in_order = in_order;
        at_first = mapped_at (λ (z : ConnectionDraft). z.to) d.connections twice.first c1 first_below (get_or_default d.connections twice.first c1 c first_below) ∙ ap (λ z. Some z) (same ∙ sym named);
        at_later = mapped_at (λ (z : ConnectionDraft). z.to) d.connections place c later_below (sym here) ∙ ap (λ z. Some z) (sym named);
      };
    }

-- all ports are there once all connections were gone through
pub there_at_end : (d : Draft) (fs : List Federate) (i : ℕ) → fs ≡ d.federates → length d.connections ≤ i
    → All (λ c. IsSome (found_output fs c.from)) (take i d.connections) → All (λ c. IsSome (found_input fs c.to)) (take i d.connections)
    → ArePortsThere d
there_at_end d fs i is past from_outputs to_inputs =
    let whole : take i d.connections ≡ d.connections = take_all i d.connections past in
    record {
      from_outputs = subst (λ gs. All (λ c. IsSome (found_output gs c.from)) d.connections) is
          (subst (λ xs. All (λ c. IsSome (found_output fs c.from)) xs) whole from_outputs);
      to_inputs = subst (λ gs. All (λ c. IsSome (found_input gs c.to)) d.connections) is
          (subst (λ xs. All (λ c. IsSome (found_input fs c.to)) xs) whole to_inputs);
    }
