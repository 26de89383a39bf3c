-- The latest source is that of the newest turn: what a reactor sees at a port, at an action and from outside.
use Rattle.std.proofs.Common.{◌≡◌, ◌≢◌, ℕ, ◌+◌, ◌<◌, ◌≤◌, List, [], ◌∷◌, ◌++◌, Bool, true, false, cond, ◌&&◌, IsTrue, refl, sym, ap, ◌∙◌, ℤ, arith, All}
use Rattle.std.specs.Prelude.{nat_eq, nat_lt, Option, None, Some, filter, AllPairs, if◌then◌else◌}
use Rattle.std.specs.Option.{option_map}
use Rattle.std.specs.List.{AllByRecursion, flat_map}
use Rattle.std.proofs.lemmas.Bool.{or_left, or_right, and_from, false_from_ne_true}
use Rattle.std.proofs.lemmas.Bool.Decides.{nat_tests}
use Rattle.std.proofs.lemmas.List.{append-nil}
use Rattle.std.proofs.lemmas.List.Elements.{filter-append}
use Rattle.tag.specs.LogicalTime.{LogicalTime, is_before, is_at_most, is_same, sum_of}
use Rattle.tag.proofs.Order.{same_is_equal, same_itself}
use Rattle.network.specs.Connection.{Connection}
use Rattle.network.specs.Event.{Source, Event, is_later, later_of, latest}
use Rattle.network.specs.Network.{Network, Scheduling, Effect}
use Rattle.network.specs.Undivided.{message_of, carried_by, scheduled_from, made_by}
use Rattle.network.specs.Lawful.{IsLawful, IsConnected, IsExternal, IsOwn, HaveDifferentEnds, AreForDifferentSlots}
use Rattle.network_laws.specs.History.{Turn, HasRisingTags, states_after, effect_after}
use Rattle.network_laws.specs.Sees.{made_in, sees}
use Rattle.network_laws.specs.Newest.{or_else, carried_to, last_carried, scheduled_to, last_in_list, last_scheduled}
use Rattle.network.proofs.Items.{first_pair, later_pairs}
use Rattle.network_laws.proofs.Lists.{Among, all_among, each, from_each, each_more, each_both, each_append, each_filter, each_among, none_kept, filter_twice}
use Rattle.network_laws.proofs.Agree.{is_for}
use Rattle.network_laws.proofs.Meet.{IsRising, rising_from}
use Rattle.network_laws.proofs.Maker.{maker, source_or, FoundIn, all_found, none_found, is_for_parts, events_for}

-- the value of the latest of these events
abbrev pub latest_value : List Event → Option ℤ
latest_value es = option_map (λ e. e.value) (latest es)

abbrev HasLatest : (Event → Type 0) → Option Event → Type 0
HasLatest P None = Unit {0}
HasLatest P (Some e) = P e

one_of : (P : Event → Type 0) (x : Event) (o : Option Event) → P x → HasLatest P o → P (later_of x o)
one_of P x None p q = p
one_of P x (Some y) p q = by_test (is_later y.source x.source)
  where
    by_test : (b : Bool) → P (if b then y else x)
    by_test true = q
    by_test false = p

latest_has : (P : Event → Type 0) (es : List Event) → AllByRecursion P es → HasLatest P (latest es)
latest_has P [] a = tt
latest_has P (x ∷ xs) a = one_of P x (latest xs) a.0 (latest_has P xs a.1)

or_none : {A : Type 0} (o : Option A) → o ≡ or_else o None
or_none None = refl
or_none (Some x) = refl

latest_step : (x : Event) (o r : Option Event) → HasLatest (λ y. IsTrue (is_later y.source x.source)) o → Some (later_of x (or_else o r)) ≡ or_else o (Some (later_of x r))
latest_step x None r h = refl
latest_step x (Some y) r h = ap (λ (b : Bool). Some (if b then y else x)) h

-- where all of the second list are later than all of the first, those of the first count only if there are no others
latest_after : (xs ys : List Event) → AllByRecursion (λ x. AllByRecursion (λ y. IsTrue (is_later y.source x.source)) ys) xs → latest (xs ++ ys) ≡ or_else (latest ys) (latest xs)
latest_after [] ys a = or_none (latest ys)
latest_after (x ∷ xs) ys a =
    ap (λ (o : Option Event). Some (later_of x o)) (latest_after xs ys a.1)
    ∙ latest_step x (latest ys) (latest xs) (latest_has (λ y. IsTrue (is_later y.source x.source)) ys a.0)

value_or : (a b : Option Event) → option_map (λ (e : Event). e.value) (or_else a b) ≡ or_else (option_map (λ (e : Event). e.value) a) (option_map (λ (e : Event). e.value) b)
value_or None b = refl
value_or (Some e) b = refl

pub latest_value_after : (xs ys : List Event) → AllByRecursion (λ x. AllByRecursion (λ y. IsTrue (is_later y.source x.source)) ys) xs → latest_value (xs ++ ys) ≡ or_else (latest_value ys) (latest_value xs)
latest_value_after xs ys a = ap (option_map (λ (e : Event). e.value)) (latest_after xs ys a) ∙ value_or (latest ys) (latest xs)

-- where events of a turn come from
abbrev pub IsFrom : LogicalTime → Event → Type 0
IsFrom s e = e.source.tag ≡ s

message_from : (s : LogicalTime) (c : Connection) (o : Option ℤ) → AllByRecursion (IsFrom s) (message_of s c o)
message_from s c None = tt
message_from s c (Some value) = (refl, tt)

carried_from : (s : LogicalTime) (c : Connection) (o : Option ℤ) (b : Bool) → AllByRecursion (IsFrom s) (cond b (message_of s c o) [])
carried_from s c o true = message_from s c o
carried_from s c o false = tt

all_carried_from : (i : ℕ) (s : LogicalTime) (outputs : ℕ → Option ℤ) (cs : List Connection) → AllByRecursion (IsFrom s) (flat_map (carried_by i s outputs) cs)
all_carried_from i s outputs [] = tt
all_carried_from i s outputs (c ∷ cs) =
    each_append (IsFrom s) (carried_by i s outputs c) (flat_map (carried_by i s outputs) cs) (carried_from s c (outputs c.port) (nat_eq c.source i)) (all_carried_from i s outputs cs)

pub all_scheduled_from : (i : ℕ) (s : LogicalTime) (place : ℕ) (ss : List Scheduling) → AllByRecursion (λ e. IsFrom s e × (place ≤ e.source.place)) (scheduled_from i s place ss)
all_scheduled_from i s place [] = tt
all_scheduled_from i s place (x ∷ xs) =
    ((refl, omega arith), each_more (λ e. IsFrom s e × (place + 1 ≤ e.source.place)) (λ e. IsFrom s e × (place ≤ e.source.place)) (λ e w. (w.0, (let k = w.1 in omega arith))) (scheduled_from i s (place + 1) xs) (all_scheduled_from i s (place + 1) xs))

pub all_from : (n : Network) (i : ℕ) (s : LogicalTime) (effect : Effect) → AllByRecursion (IsFrom s) (made_by n i s effect)
all_from n i s effect =
    let carried : List Event = flat_map (carried_by i s effect.outputs) n.connections in
    let scheduled : List Event = scheduled_from i s 0 effect.schedulings in
    each_filter (IsFrom s) (IsFrom s) (λ e. is_at_most e.tag n.stop) (λ e k a. a) (carried ++ scheduled)
    (each_append (IsFrom s) carried scheduled (all_carried_from i s effect.outputs n.connections)
    (each_more (λ e. IsFrom s e × (0 ≤ e.source.place)) (IsFrom s) (λ e w. w.0) scheduled (all_scheduled_from i s 0 effect.schedulings)))

-- what older turns make comes from before
all_from_before : (n : Network) (i : ℕ) (t : LogicalTime) (h : List Turn) → AllByRecursion (λ y. IsTrue (is_before y.tag t)) h → AllByRecursion (λ e. IsTrue (is_before e.source.tag t)) (made_in n i h)
all_from_before n i t [] a = tt
all_from_before n i t (x ∷ xs) a =
    each_append (λ e. IsTrue (is_before e.source.tag t)) (made_in n i xs) (made_by n i x.tag (effect_after n i xs x))
    (all_from_before n i t xs a.1)
    (each_more (IsFrom x.tag) (λ e. IsTrue (is_before e.source.tag t)) (λ e w. ap (λ (g : LogicalTime). is_before g t) w ∙ a.0) (made_by n i x.tag (effect_after n i xs x)) (all_from n i x.tag (effect_after n i xs x)))

from_later : (t : LogicalTime) (x y : Event) → IsTrue (is_before x.source.tag t) → IsFrom t y → IsTrue (is_later y.source x.source)
from_later t x y h k = or_left (is_before x.source.tag y.source.tag) (is_same y.source.tag x.source.tag && nat_lt x.source.place y.source.place) (ap (is_before x.source.tag) k ∙ h)

-- of the events of a history that pass, those of the newest turn count
pub newest_counts : (n : Network) (i : ℕ) (p : Event → Bool) (x : Turn) (xs : List Turn) → AllByRecursion (λ y. IsTrue (is_before y.tag x.tag)) xs → latest_value (filter p (made_in n i (x ∷ xs))) ≡ or_else (latest_value (filter p (made_by n i x.tag (effect_after n i xs x)))) (latest_value (filter p (made_in n i xs)))
newest_counts n i p x xs a =
    let old : List Event = filter p (made_in n i xs) in
    let new : List Event = filter p (made_by n i x.tag (effect_after n i xs x)) in
    let from : AllByRecursion (IsFrom x.tag) new = each_filter (IsFrom x.tag) (IsFrom x.tag) p (λ e k w. w) (made_by n i x.tag (effect_after n i xs x)) (all_from n i x.tag (effect_after n i xs x)) in
    ap latest_value (filter-append p (made_in n i xs) (made_by n i x.tag (effect_after n i xs x)))
    ∙ latest_value_after old new
    (each_filter (λ e. IsTrue (is_before e.source.tag x.tag)) (λ e. AllByRecursion (λ y. IsTrue (is_later y.source e.source)) new) p
    (λ e k w. each_more (IsFrom x.tag) (λ y. IsTrue (is_later y.source e.source)) (λ y v. from_later x.tag e y w v) new from)
    (made_in n i xs) (all_from_before n i x.tag xs a))

-- events up to stop aren't lost
in_time_kept : (n : Network) (a : ℕ) (t : LogicalTime) (slot : ℕ) → IsTrue (is_at_most t n.stop) → (es : List Event) → filter (is_for a t slot) (filter (λ e. is_at_most e.tag n.stop) es) ≡ filter (is_for a t slot) es
in_time_kept n a t slot h es = filter_twice (is_for a t slot) (λ e. is_at_most e.tag n.stop)
    (λ e k. let parts = is_for_parts a t slot e k in ap (λ (g : LogicalTime). is_at_most g n.stop) (same_is_equal e.tag t parts.1.0) ∙ h) es

not_for : (a : ℕ) (t : LogicalTime) (slot : ℕ) (e : Event) → (e.reactor ≡ a → e.slot ≡ slot → ⊥) → is_for a t slot e ≡ false
not_for a t slot e h = false_from_ne_true (is_for a t slot e) (λ k. let parts = is_for_parts a t slot e k in h parts.0 parts.1.1)

-- the test of an event for its own slot is that of its tag
for_own_slot : (e : Event) (t : LogicalTime) → is_for e.reactor t e.slot e ≡ is_same e.tag t
for_own_slot e t = grind (arith, nat_tests)

message_elsewhere : (a : ℕ) (t : LogicalTime) (slot : ℕ) (s : LogicalTime) (c : Connection) → (c.target ≡ a → c.slot ≡ slot → ⊥) → (o : Option ℤ) (b : Bool) → filter (is_for a t slot) (cond b (message_of s c o) []) ≡ []
message_elsewhere a t slot s c h o false = refl
message_elsewhere a t slot s c h None true = refl
message_elsewhere a t slot s c h (Some v) true =
    let e : Event = record { tag = sum_of s c.delay; reactor = c.target; slot = c.slot; source = record { tag = s; place = 0 }; value = v } in
    none_kept (is_for a t slot) (e ∷ []) (not_for a t slot e h, tt)

all_carried_elsewhere : (i a : ℕ) (t : LogicalTime) (slot : ℕ) (s : LogicalTime) (outputs : ℕ → Option ℤ) (cs : List Connection) → AllByRecursion (λ c. c.target ≡ a → c.slot ≡ slot → ⊥) cs → filter (is_for a t slot) (flat_map (carried_by i s outputs) cs) ≡ []
all_carried_elsewhere i a t slot s outputs [] w = refl
all_carried_elsewhere i a t slot s outputs (c ∷ cs) w =
    let first = message_elsewhere a t slot s c w.0 (outputs c.port) (nat_eq c.source i) in
    let rest = all_carried_elsewhere i a t slot s outputs cs w.1 in
    filter-append (is_for a t slot) (carried_by i s outputs c) (flat_map (carried_by i s outputs) cs) ∙ (λ y. first y ++ rest y)

all_scheduled_elsewhere : (i a : ℕ) (t : LogicalTime) (slot : ℕ) (s : LogicalTime) (place : ℕ) (ss : List Scheduling) → AllByRecursion (λ x. i ≡ a → x.slot ≡ slot → ⊥) ss → filter (is_for a t slot) (scheduled_from i s place ss) ≡ []
all_scheduled_elsewhere i a t slot s place [] w = refl
all_scheduled_elsewhere i a t slot s place (x ∷ xs) w =
    let e : Event = record { tag = sum_of s x.delay; reactor = i; slot = x.slot; source = record { tag = s; place = place }; value = x.value } in
    ap (λ (b : Bool). cond b (e ∷ filter (is_for a t slot) (scheduled_from i s (place + 1) xs)) (filter (is_for a t slot) (scheduled_from i s (place + 1) xs))) (not_for a t slot e w.0)
    ∙ all_scheduled_elsewhere i a t slot s (place + 1) xs w.1

-- what a connection carries, of all that is made for its slot
message_here : (s t : LogicalTime) (c : Connection) (o : Option ℤ) → latest_value (filter (is_for c.target t c.slot) (message_of s c o)) ≡ carried_to c s t o
message_here s t c None = by_test (is_same (sum_of s c.delay) t)
  where
    by_test : (b : Bool) → latest_value [] ≡ (if b then None else None)
    by_test true = refl
    by_test false = refl
message_here s t c (Some v) =
    let e : Event = record { tag = sum_of s c.delay; reactor = c.target; slot = c.slot; source = record { tag = s; place = 0 }; value = v } in
    ap (λ (b : Bool). latest_value (cond b (e ∷ []) [])) (for_own_slot e t) ∙ by_test e (is_same (sum_of s c.delay) t)
  where
    by_test : (e : Event) (b : Bool) → latest_value (cond b (e ∷ []) []) ≡ (if b then Some e.value else None)
    by_test e true = refl
    by_test e false = refl

abbrev pub CarriesAlone : LogicalTime → LogicalTime → (ℕ → Option ℤ) → List Connection → Connection → Type 0
CarriesAlone s t outputs cs c = filter (is_for c.target t c.slot) (flat_map (carried_by c.source s outputs) cs) ≡ filter (is_for c.target t c.slot) (message_of s c (outputs c.port))

carried_alone : (s t : LogicalTime) (outputs : ℕ → Option ℤ) (cs : List Connection) → AllPairs HaveDifferentEnds cs → AllByRecursion (CarriesAlone s t outputs cs) cs
carried_alone s t outputs [] a = tt
carried_alone s t outputs (x ∷ xs) a =
    let apart = each (HaveDifferentEnds x) xs (first_pair HaveDifferentEnds x xs a) in
    let mine : nat_eq x.source x.source ≡ true = grind (arith, nat_tests) in
    let none = all_carried_elsewhere x.source x.target t x.slot s outputs xs (each_more (HaveDifferentEnds x) (λ c. c.target ≡ x.target → c.slot ≡ x.slot → ⊥) (λ c h p q. h (sym p) (sym q)) xs apart) in (
      filter-append (is_for x.target t x.slot) (carried_by x.source s outputs x) (flat_map (carried_by x.source s outputs) xs)
          ∙ ((λ y. filter (is_for x.target t x.slot) (cond (mine y) (message_of s x (outputs x.port)) []) ++ none y)
          ∙ append-nil (filter (is_for x.target t x.slot) (message_of s x (outputs x.port)))),
      each_more (λ c. HaveDifferentEnds x c × CarriesAlone s t outputs xs c) (CarriesAlone s t outputs (x ∷ xs))
          (λ c w.
          let first = message_elsewhere c.target t c.slot s x w.0 (outputs x.port) (nat_eq x.source c.source) in
          filter-append (is_for c.target t c.slot) (carried_by c.source s outputs x) (flat_map (carried_by c.source s outputs) xs) ∙ (λ y. first y ++ w.1 y))
          xs (each_both (HaveDifferentEnds x) (CarriesAlone s t outputs xs) xs apart (carried_alone s t outputs xs (later_pairs HaveDifferentEnds x xs a))),
    )

-- what schedulings make present, of all that is made for a slot
scheduled_first : (e : Event) (a : ℕ) (t : LogicalTime) (slot : ℕ) (s : LogicalTime) (x : Scheduling) → e.tag ≡ sum_of s x.delay → e.reactor ≡ a → e.slot ≡ x.slot → is_for a t slot e ≡ (is_same (sum_of s x.delay) t && nat_eq x.slot slot)
scheduled_first e a t slot s x p q r =
    let here : nat_eq e.reactor a ≡ true = grind (arith, nat_tests) in
    (λ y. (here y && is_same (p y) t) && nat_eq (r y) slot)

-- of one turn's schedulings a later one has the later source
pub same_turn_later : (s : LogicalTime) (place : ℕ) (y : Source) → y.tag ≡ s → place + 1 ≤ y.place → IsTrue (is_later y (record { tag = s; place = place }))
same_turn_later s place y p h =
    let same : is_same y.tag s ≡ true = ap (λ (g : LogicalTime). is_same g s) p ∙ same_itself s in
    let more : nat_lt place y.place ≡ true = grind (arith, nat_tests) in
    or_right (is_before s y.tag) (is_same y.tag s && nat_lt place y.place) (and_from (is_same y.tag s) (nat_lt place y.place) same more)

scheduled_value : (a : ℕ) (t : LogicalTime) (slot : ℕ) (s : LogicalTime) (place : ℕ) (ss : List Scheduling) → latest_value (filter (is_for a t slot) (scheduled_from a s place ss)) ≡ last_in_list ss s slot t
scheduled_value a t slot s place [] = refl
scheduled_value a t slot s place (x ∷ xs) =
    let e : Event = record { tag = sum_of s x.delay; reactor = a; slot = x.slot; source = record { tag = s; place = place }; value = x.value } in
    let rest : List Event = scheduled_from a s (place + 1) xs in
    let later : AllByRecursion (λ y. IsTrue (is_later y.source e.source)) (filter (is_for a t slot) rest) =
    each_filter (λ y. IsFrom s y × (place + 1 ≤ y.source.place)) (λ y. IsTrue (is_later y.source e.source)) (is_for a t slot) (λ y k w. same_turn_later s place y.source w.0 w.1) rest (all_scheduled_from a s (place + 1) xs) in
    by_test e (filter (is_for a t slot) rest) (is_for a t slot e) later
    ∙ ((λ y. or_else (latest_value (filter (is_for a t slot) rest)) (if scheduled_first e a t slot s x refl refl refl y then Some x.value else None))
    ∙ ap (λ (o : Option ℤ). or_else o (scheduled_to x s slot t)) (scheduled_value a t slot s (place + 1) xs))
  where
    by_test : (e : Event) (ys : List Event) (b : Bool) → AllByRecursion (λ y. IsTrue (is_later y.source e.source)) ys → latest_value (cond b (e ∷ ys) ys) ≡ or_else (latest_value ys) (if b then Some e.value else None)
    by_test e ys true w = latest_value_after (e ∷ []) ys (w, tt)
    by_test e ys false w = or_none (latest_value ys)

-- this connection alone carries to its slot
pub record CarriesAll (n : Network) (c : Connection) : Type 0 where
  pub among : Among c n.connections
  pub alone : (s t : LogicalTime) (outputs : ℕ → Option ℤ) → CarriesAlone s t outputs n.connections c

-- what is known of a connection's slot
pub record PortFacts (n : Network) (c : Connection) : Type 0 where
  pub found : FoundIn n.connections c
  pub target : c.target < n.reactors
  pub external : All (λ e. e.reactor ≡ c.target → e.slot ≢ c.slot) n.external
  pub alone : CarriesAll n c

pub port_facts : (n : Network) → IsLawful n → AllByRecursion (PortFacts n) n.connections
port_facts n L =
    let cs : List Connection = n.connections in
    each_more (λ c. Among c cs × FoundIn cs c × IsConnected n c × All (λ e. e.reactor ≡ c.target → e.slot ≢ c.slot) n.external) (PortFacts n)
    (λ c w. record {
      found = w.1;
      target = w.2.target;
      external = w.3;
      alone = record { among = w.0; alone = λ s t outputs. each_among (CarriesAlone s t outputs cs) c cs (carried_alone s t outputs cs L.one_source) w.0 };
    }) cs (four (λ c. Among c cs) (FoundIn cs) (IsConnected n) (λ c. All (λ e. e.reactor ≡ c.target → e.slot ≢ c.slot) n.external) cs (all_among cs) (all_found cs L.one_source) (each (IsConnected n) cs L.connected) (each (λ c. All (λ e. e.reactor ≡ c.target → e.slot ≢ c.slot) n.external) cs L.ports_apart))
  where
    four : (P Q R S : Connection → Type 0) (xs : List Connection) → AllByRecursion P xs → AllByRecursion Q xs → AllByRecursion R xs → AllByRecursion S xs → AllByRecursion (λ x. P x × Q x × R x × S x) xs
    four P Q R S [] a b c d = tt
    four P Q R S (x ∷ xs) a b c d = ((a.0, b.0, c.0, d.0), four P Q R S xs a.1 b.1 c.1 d.1)

abbrev Sees : Network → (ℕ → List Turn) → Connection → Type 0
Sees n trace c = HasRisingTags (trace c.source) → (tag : LogicalTime) → IsTrue (is_at_most tag n.stop) → sees n trace c.target tag c.slot ≡ last_carried n c tag (trace c.source)

-- what a turn carries over a connection
pub turn_carries : (n : Network) → IsLawful n → (c : Connection) → CarriesAll n c → (t : LogicalTime) → IsTrue (is_at_most t n.stop) → (s : LogicalTime) (states : List ℤ) (present : ℕ → Option ℤ) → latest_value (filter (is_for c.target t c.slot) (made_by n c.source s (n.effect c.source states present))) ≡ carried_to c s t ((n.effect c.source states present).outputs c.port)
turn_carries n L c alone t below s states present =
    let effect : Effect = n.effect c.source states present in
    let carried : List Event = flat_map (carried_by c.source s effect.outputs) n.connections in
    let scheduled : List Event = scheduled_from c.source s 0 effect.schedulings in
    let none : filter (is_for c.target t c.slot) scheduled ≡ [] =
    all_scheduled_elsewhere c.source c.target t c.slot s 0 effect.schedulings
    (each_more (IsOwn n c.source) (λ x. c.source ≡ c.target → x.slot ≡ c.slot → ⊥) (λ x w p q. each_among (λ d. d.target ≡ c.source → d.slot ≢ x.slot) c n.connections (each (λ d. d.target ≡ c.source → d.slot ≢ x.slot) n.connections w.no_port) alone.among (sym p) (sym q))
    effect.schedulings (each (IsOwn n c.source) effect.schedulings (L.schedulings c.source states present))) in
    ap latest_value (in_time_kept n c.target t c.slot below (carried ++ scheduled)
    ∙ (filter-append (is_for c.target t c.slot) carried scheduled
    ∙ ((λ y. alone.alone s t effect.outputs y ++ none y) ∙ append-nil (filter (is_for c.target t c.slot) (message_of s c (effect.outputs c.port))))))
    ∙ message_here s t c (effect.outputs c.port)

history_carries : (n : Network) → IsLawful n → (c : Connection) → CarriesAll n c → (t : LogicalTime) → IsTrue (is_at_most t n.stop) → (h : List Turn) → IsRising h → latest_value (filter (is_for c.target t c.slot) (made_in n c.source h)) ≡ last_carried n c t h
history_carries n L c alone t below [] r = refl
history_carries n L c alone t below (x ∷ xs) r =
    let now = turn_carries n L c alone t below x.tag (states_after n c.source xs) x.present in
    let rest = history_carries n L c alone t below xs r.1 in
    newest_counts n c.source (is_for c.target t c.slot) x xs r.0 ∙ (λ y. or_else (now y) (rest y))

no_external : (n : Network) (a : ℕ) (t : LogicalTime) (slot : ℕ) → All (λ e. e.reactor ≡ a → e.slot ≢ slot) n.external → filter (is_for a t slot) n.external ≡ []
no_external n a t slot w = none_kept (is_for a t slot) n.external (each_more (λ e. e.reactor ≡ a → e.slot ≢ slot) (λ e. is_for a t slot e ≡ false) (λ e v. not_for a t slot e v) n.external (each (λ e. e.reactor ≡ a → e.slot ≢ slot) n.external w))

-- at a port: what its connection carries there last
pub port_sees : (n : Network) → IsLawful n → (trace : ℕ → List Turn) → All (λ c. HasRisingTags (trace c.source) → (tag : LogicalTime) → IsTrue (is_at_most tag n.stop) → sees n trace c.target tag c.slot ≡ last_carried n c tag (trace c.source)) n.connections
port_sees n L trace = from_each (Sees n trace) n.connections (each_more (PortFacts n) (Sees n trace) (λ c w rising t below.
    let from : maker n c.target c.slot ≡ c.source = ap (λ (o : Option ℕ). source_or o c.target) w.found in
    ap latest_value (events_for n L c.target w.target t c.slot trace
    ∙ (λ y. no_external n c.target t c.slot w.external y ++ filter (is_for c.target t c.slot) (made_in n (from y) (trace (from y)))))
    ∙ history_carries n L c w.alone t below (trace c.source) (rising_from (trace c.source) rising)) n.connections (port_facts n L))

-- what a turn schedules for a slot of its own
pub turn_schedules : (n : Network) → IsLawful n → (j slot : ℕ) → AllByRecursion (λ c. c.target ≡ j → c.slot ≢ slot) n.connections → (t : LogicalTime) → IsTrue (is_at_most t n.stop) → (s : LogicalTime) (effect : Effect) → latest_value (filter (is_for j t slot) (made_by n j s effect)) ≡ last_in_list effect.schedulings s slot t
turn_schedules n L j slot own t below s effect =
    let carried : List Event = flat_map (carried_by j s effect.outputs) n.connections in
    let scheduled : List Event = scheduled_from j s 0 effect.schedulings in
    let none : filter (is_for j t slot) carried ≡ [] = all_carried_elsewhere j j t slot s effect.outputs n.connections own in
    ap latest_value (in_time_kept n j t slot below (carried ++ scheduled)
    ∙ (filter-append (is_for j t slot) carried scheduled
    ∙ ap (λ (l : List Event). l ++ filter (is_for j t slot) scheduled) none))
    ∙ scheduled_value j t slot s 0 effect.schedulings

history_schedules : (n : Network) → IsLawful n → (j slot : ℕ) → AllByRecursion (λ c. c.target ≡ j → c.slot ≢ slot) n.connections → (t : LogicalTime) → IsTrue (is_at_most t n.stop) → (h : List Turn) → IsRising h → latest_value (filter (is_for j t slot) (made_in n j h)) ≡ last_scheduled n j slot t h
history_schedules n L j slot own t below [] r = refl
history_schedules n L j slot own t below (x ∷ xs) r =
    let now = turn_schedules n L j slot own t below x.tag (effect_after n j xs x) in
    let rest = history_schedules n L j slot own t below xs r.1 in
    newest_counts n j (is_for j t slot) x xs r.0 ∙ (λ y. or_else (now y) (rest y))

-- at a slot that no connection and no external event reaches: what the reactor scheduled there last
pub action_sees : (n : Network) → IsLawful n → (trace : ℕ → List Turn) (j slot : ℕ) → j < n.reactors → All (λ c. c.target ≡ j → c.slot ≢ slot) n.connections → All (λ e. e.reactor ≡ j → e.slot ≢ slot) n.external → HasRisingTags (trace j) → (tag : LogicalTime) → IsTrue (is_at_most tag n.stop) → sees n trace j tag slot ≡ last_scheduled n j slot tag (trace j)
action_sees n L trace j slot h no_port not_external rising t below =
    let own : AllByRecursion (λ c. c.target ≡ j → c.slot ≢ slot) n.connections = each (λ c. c.target ≡ j → c.slot ≢ slot) n.connections no_port in
    let from : maker n j slot ≡ j = ap (λ (o : Option ℕ). source_or o j) (none_found n.connections j slot own) in
    ap latest_value (events_for n L j h t slot trace
    ∙ (λ y. no_external n j t slot not_external y ++ filter (is_for j t slot) (made_in n (from y) (trace (from y)))))
    ∙ history_schedules n L j slot own t below (trace j) (rising_from (trace j) rising)

-- one external event for a slot at a tag
other_event : (e x : Event) → (e.tag ≡ x.tag → e.reactor ≡ x.reactor → e.slot ≡ x.slot → ⊥) → is_for e.reactor e.tag e.slot x ≡ false
other_event e x h = false_from_ne_true (is_for e.reactor e.tag e.slot x) (λ k. let parts = is_for_parts e.reactor e.tag e.slot x k in h (sym (same_is_equal x.tag e.tag parts.1.0)) (sym parts.0) (sym parts.1.1))

external_alone : (es : List Event) → AllPairs AreForDifferentSlots es → AllByRecursion (λ e. filter (is_for e.reactor e.tag e.slot) es ≡ e ∷ []) es
external_alone [] a = tt
external_alone (x ∷ xs) a =
    let apart = each (AreForDifferentSlots x) xs (first_pair AreForDifferentSlots x xs a) in
    let rest : filter (is_for x.reactor x.tag x.slot) xs ≡ [] = none_kept (is_for x.reactor x.tag x.slot) xs (each_more (AreForDifferentSlots x) (λ y. is_for x.reactor x.tag x.slot y ≡ false) (λ y w. other_event x y w) xs apart) in
    let mine : is_for x.reactor x.tag x.slot x ≡ true = for_own_slot x x.tag ∙ same_itself x.tag in (
      (λ y. cond (mine y) (x ∷ rest y) (rest y)),
      each_more (λ e. AreForDifferentSlots x e × (filter (is_for e.reactor e.tag e.slot) xs ≡ e ∷ [])) (λ e. filter (is_for e.reactor e.tag e.slot) (x ∷ xs) ≡ e ∷ [])
          (λ e w.
          let other : is_for e.reactor e.tag e.slot x ≡ false = other_event e x (λ p q r. w.0 (sym p) (sym q) (sym r)) in
          ap (λ (b : Bool). cond b (x ∷ filter (is_for e.reactor e.tag e.slot) xs) (filter (is_for e.reactor e.tag e.slot) xs)) other ∙ w.1)
          xs (each_both (AreForDifferentSlots x) (λ e. filter (is_for e.reactor e.tag e.slot) xs ≡ e ∷ []) xs apart (external_alone xs (later_pairs AreForDifferentSlots x xs a))),
    )

-- no turn makes an event where an external event is
pub none_made_outside : (n : Network) → IsLawful n → (e : Event) → Among e n.external → IsExternal n e → (i : ℕ) (h : List Turn) → filter (is_for e.reactor e.tag e.slot) (made_in n i h) ≡ []
none_made_outside n L e m w i [] = refl
none_made_outside n L e m w i (x ∷ xs) =
    let effect : Effect = effect_after n i xs x in
    let carried : List Event = flat_map (carried_by i x.tag effect.outputs) n.connections in
    let scheduled : List Event = scheduled_from i x.tag 0 effect.schedulings in
    let Apart : Connection → Type 0 = λ c. All (λ e. e.reactor ≡ c.target → e.slot ≢ c.slot) n.external in
    let first : filter (is_for e.reactor e.tag e.slot) carried ≡ [] =
    all_carried_elsewhere i e.reactor e.tag e.slot x.tag effect.outputs n.connections
    (each_more Apart (λ c. c.target ≡ e.reactor → c.slot ≡ e.slot → ⊥)
    (λ c a p q. each_among (λ e. e.reactor ≡ c.target → e.slot ≢ c.slot) e n.external (each (λ e. e.reactor ≡ c.target → e.slot ≢ c.slot) n.external a) m (sym p) (sym q))
    n.connections (each Apart n.connections L.ports_apart)) in
    let second : filter (is_for e.reactor e.tag e.slot) scheduled ≡ [] =
    all_scheduled_elsewhere i e.reactor e.tag e.slot x.tag 0 effect.schedulings
    (each_more (IsOwn n i) (λ s. i ≡ e.reactor → s.slot ≡ e.slot → ⊥)
    (λ s o p q. each_among (λ e. e.reactor ≡ i → e.slot ≢ s.slot) e n.external (each (λ e. e.reactor ≡ i → e.slot ≢ s.slot) n.external o.not_external) m (sym p) (sym q))
    effect.schedulings (each (IsOwn n i) effect.schedulings (L.schedulings i (states_after n i xs) x.present))) in
    let mine = in_time_kept n e.reactor e.tag e.slot w.in_time (carried ++ scheduled) ∙ (filter-append (is_for e.reactor e.tag e.slot) carried scheduled ∙ (λ y. first y ++ second y)) in
    let rest = none_made_outside n L e m w i xs in
    filter-append (is_for e.reactor e.tag e.slot) (made_in n i xs) (made_by n i x.tag effect) ∙ (λ y. rest y ++ mine y)

-- an external event is seen where it is
pub external_sees : (n : Network) → IsLawful n → (trace : ℕ → List Turn) → All (λ e. sees n trace e.reactor e.tag e.slot ≡ Some e.value) n.external
external_sees n L trace =
    let es : List Event = n.external in
    from_each (λ e. sees n trace e.reactor e.tag e.slot ≡ Some e.value) es
    (each_more (λ e. Among e es × (IsExternal n e × (filter (is_for e.reactor e.tag e.slot) es ≡ e ∷ []))) (λ e. sees n trace e.reactor e.tag e.slot ≡ Some e.value)
    (λ e w.
    let none = none_made_outside n L e w.0 w.1.0 (maker n e.reactor e.slot) (trace (maker n e.reactor e.slot)) in
    ap latest_value (events_for n L e.reactor w.1.0.reactor e.tag e.slot trace ∙ (λ y. w.1.1 y ++ none y)))
    es (each_both (λ e. Among e es) (λ e. IsExternal n e × (filter (is_for e.reactor e.tag e.slot) es ≡ e ∷ [])) es (all_among es)
    (each_both (IsExternal n) (λ e. filter (is_for e.reactor e.tag e.slot) es ≡ e ∷ []) es (each (IsExternal n) es L.external) (external_alone es L.external_apart))))
