-- Who is awaited, and which tag is the least, with one federate more.
use Rattle.std.proofs.Common.{◌≡◌, ◌∙◌, ℕ, ◌+◌, ◌-◌, ◌<◌, Bool, true, false, not, cond, if◌then◌else◌, List, [], ◌∷◌, ◌++◌, length, take, get_or, refl, sym, ap, subst, arith, zero-add, add-zero, length-append, Option, None, Some, is_some, is_none, option_map, MatchOption, IfSome, count_by, position}
use Rattle.std.specs.List.{position_from}
use Rattle.std.proofs.lemmas.Bool.Decides.{nat_tests}
use Rattle.std.proofs.lemmas.List.{map_more}
use Rattle.std.proofs.lemmas.List.Elements.{All-push, All-weaker, Contains-push, Contains-append_left}
use Rattle.std.proofs.lemmas.List.Sums.{sum_by-cons, sum_by_push}
use Rattle.std.proofs.lemmas.Iterator.Adapters.{position_from-zero}
use Rattle.tag.specs.LogicalTime.{LogicalTime, is_before}
use Rattle.tag.proofs.Order.{before_irreflexive}
use Rattle.wires_hosts.specs.declared.awaited.Awaited.{Awaited}
use Rattle.wires_hosts.specs.declared.seen.Seen.{Seen}
use Rattle.wires_hosts.specs.Awaited.{counted, awaited_of, with_one}
use Rattle.wires_hosts.specs.Standing.{IsLeast, least_of}
use Rattle.wires_hosts.specs.Overview.{are_there, completed_by}

-- ---- who is awaited

-- the first that isn't there, with one federate more, whose number is this one
abbrev first_with : Option ℕ → (is_there : Bool) → ℕ → Option ℕ
first_with None is_there number = cond (not is_there) (Some number) None
first_with (Some first) is_there number = Some first

first_from : (i : ℕ) (xs : List Bool) (b : Bool) → position_from not i (xs ++ b ∷ []) ≡ first_with (position_from not i xs) b (i + length xs)
first_from i [] b = ap (λ (n : ℕ). cond (not b) (Some n) None) (sym (add-zero i))
first_from i (true ∷ xs) b =
    let more : i + 1 + length xs ≡ i + length (true ∷ xs) = omega arith in
    first_from (i + 1) xs b ∙ ap (λ (n : ℕ). first_with (position_from not (i + 1) xs) b n) more
first_from i (false ∷ xs) b = refl

first_more : (xs : List Bool) (b : Bool) → position not (xs ++ b ∷ []) ≡ first_with (position not xs) b (length xs)
first_more xs b =
    position_from-zero not (xs ++ b ∷ []) ∙ first_from 0 xs b ∙ ap (λ (n : ℕ). first_with (position_from not 0 xs) b n) (zero-add (length xs))
    ∙ ap (λ (o : Option ℕ). first_with o b (length xs)) (sym (position_from-zero not xs))

-- there is a first one where there is one at all
abbrev AreAway : Option ℕ → (away : ℕ) → Type 0
AreAway first away = MatchOption first (away ≡ 0) (λ k. 0 < away)

away_from : (i : ℕ) (xs : List Bool) → AreAway (position_from not i xs) (count_by not xs)
away_from i [] = refl
away_from i (true ∷ xs) =
    let same : count_by not xs ≡ count_by not (true ∷ xs) = sym (sum_by-cons (λ (x : Bool). cond (not x) 1 0) true xs ∙ zero-add (count_by not xs)) in
    subst (AreAway (position_from not (i + 1) xs)) same (away_from (i + 1) xs)
away_from i (false ∷ xs) =
    let more : count_by not (false ∷ xs) ≡ 1 + count_by not xs = sum_by-cons (λ (x : Bool). cond (not x) 1 0) false xs in
    omega arith

away : (xs : List Bool) → AreAway (position not xs) (count_by not xs)
away xs = subst (λ (o : Option ℕ). AreAway o (count_by not xs)) (sym (position_from-zero not xs)) (away_from 0 xs)

abbrev of_four : (present federates : ℕ) (first : Option ℕ) (more : ℕ) → Awaited
of_four present federates first more = record { present = present; federates = federates; first = first; more = more }

same_four : (a b p q : ℕ) (c r : Option ℕ) (d s : ℕ) → a ≡ p → b ≡ q → c ≡ r → d ≡ s → of_four a b c d ≡ of_four p q r s
same_four a b p q c r d s ea eb ec ed = rw (ea, eb, ec, ed) refl

-- a count that stops doesn't go on
counted_more : (n : ℕ) → counted (n + 1) ≡ counted (counted n + 1)
counted_more n = grind arith

stepped : (b : Bool) (o : Option ℕ) (p n c : ℕ) → AreAway o c →
    of_four (counted (p + cond b 1 0)) (counted (n + 1)) (option_map counted (first_with o b n)) (counted (c + cond (not b) 1 0 - 1))
    ≡ with_one (of_four (counted p) (counted n) (option_map counted o) (counted (c - 1))) b
stepped true None p n c h =
    let same : c + 0 - 1 ≡ c - 1 = omega arith in
    same_four _ _ _ _ None None _ _ (counted_more p) (counted_more n) refl (ap counted same)
stepped true (Some first) p n c h =
    let same : c + 0 - 1 ≡ c - 1 = omega arith in
    same_four _ _ _ _ (Some (counted first)) (Some (counted first)) _ _ (counted_more p) (counted_more n) refl (ap counted same)
stepped false None p n c h =
    let same : c + 1 - 1 ≡ c - 1 = omega arith in
    same_four _ _ _ _ (Some (counted n)) (Some (counted n)) _ _ (ap counted (add-zero p)) (counted_more n) refl (ap counted same)
stepped false (Some first) p n c h =
    let same : c + 1 - 1 ≡ c - 1 + 1 = omega arith in
    same_four _ _ _ _ (Some (counted first)) (Some (counted first)) _ _ (ap counted (add-zero p)) (counted_more n) refl (ap counted same ∙ counted_more (c - 1))

one_more : (xs : List Bool) (b : Bool) → awaited_of (xs ++ b ∷ []) ≡ with_one (awaited_of xs) b
one_more xs b =
    let present : count_by (λ x. x) (xs ++ b ∷ []) ≡ count_by (λ x. x) xs + cond b 1 0 = sum_by_push (λ (x : Bool). cond x 1 0) xs b in
    let all : length (xs ++ b ∷ []) ≡ length xs + 1 = length-append xs (b ∷ []) in
    let others : count_by not (xs ++ b ∷ []) ≡ count_by not xs + cond (not b) 1 0 = sum_by_push (λ (x : Bool). cond (not x) 1 0) xs b in
    same_four _ _ _ _ _ _ _ _ (ap counted present) (ap counted all) (ap (option_map counted) (first_more xs b)) (ap (λ (n : ℕ). counted (n - 1)) others)
    ∙ stepped b (position not xs) (count_by (λ x. x) xs) (length xs) (count_by not xs) (away xs)

-- ---- the least tag

-- a tag isn't before this one
abbrev IsNotBefore : (least : LogicalTime) → Option LogicalTime → Type 0
IsNotBefore least last = IfSome last (λ tag. is_before tag least ≡ false)

of_none : (least : LogicalTime) (last : Option LogicalTime) → last ≡ None → IsNotBefore least last
of_none least None is = tt
of_none least (Some tag) is = absurd cc

earlier : (tag least other : LogicalTime) → is_before tag least ≡ true → is_before other least ≡ false → is_before other tag ≡ false
earlier tag least other p q = grind (arith, nat_tests)

of_earlier : (tag least : LogicalTime) → is_before tag least ≡ true → (last : Option LogicalTime) → IsNotBefore least last → IsNotBefore tag last
of_earlier tag least before None h = tt
of_earlier tag least before (Some other) h = earlier tag least other before h

least_with_one : (xs : List (Option LogicalTime)) (least last : Option LogicalTime) → IsLeast xs least → IsLeast (xs ++ last ∷ []) (least_of least last)
least_with_one xs None None h = All-push (λ (x : Option LogicalTime). x ≡ None) xs None h refl
least_with_one xs None (Some tag) h =
    (Contains-push xs (Some tag), All-push (IsNotBefore tag) xs (Some tag) (All-weaker (λ (x : Option LogicalTime). x ≡ None) (IsNotBefore tag) (of_none tag) xs h) (before_irreflexive tag))
least_with_one xs (Some least) None h = (Contains-append_left xs (None ∷ []) (Some least) h.0, All-push (IsNotBefore least) xs None h.1 tt)
least_with_one xs (Some least) (Some tag) h = by (is_before tag least) refl
  where
    by : (b : Bool) → is_before tag least ≡ b → IsLeast (xs ++ Some tag ∷ []) (if b then Some tag else Some least)
    by true is =
        (Contains-push xs (Some tag), All-push (IsNotBefore tag) xs (Some tag) (All-weaker (IsNotBefore least) (IsNotBefore tag) (of_earlier tag least is) xs h.1) (before_irreflexive tag))
    by false is = (Contains-append_left xs (Some tag ∷ []) (Some least) h.0, All-push (IsNotBefore least) xs (Some tag) h.1 is)

-- ---- of the federates that were seen

there_of : (since : Option ℕ) (is_there : Bool) → is_some since ≡ not is_there → is_there ≡ is_none since
there_of None true is = refl
there_of None false is = absurd cc
there_of (Some ms) true is = absurd cc
there_of (Some ms) false is = refl

pub awaited_more :
    (seen : List Seen) (i : ℕ) (of : Seen) (awaited new : Awaited) (is_there : Bool) → i < length seen → of ≡ get_or seen i of →
    is_some of.awaited_since_ms ≡ not is_there → new ≡ with_one awaited is_there → awaited ≡ awaited_of (are_there (take i seen)) →
    new ≡ awaited_of (are_there (take (i + 1) seen))
awaited_more seen i of awaited new is_there within is there_is new_is so_far =
    let more : are_there (take (i + 1) seen) ≡ are_there (take i seen) ++ is_none of.awaited_since_ms ∷ [] =
    map_more (λ (s : Seen). is_none s.awaited_since_ms) seen i of within
    ∙ ap (λ (s : Seen). are_there (take i seen) ++ is_none s.awaited_since_ms ∷ []) (sym is) in
    new_is ∙ ap (with_one awaited) (there_of of.awaited_since_ms is_there there_is) ∙ ap (λ (a : Awaited). with_one a (is_none of.awaited_since_ms)) so_far
    ∙ sym (one_more (are_there (take i seen)) (is_none of.awaited_since_ms)) ∙ sym (ap awaited_of more)

pub least_more :
    (seen : List Seen) (i : ℕ) (of : Seen) (least new : Option LogicalTime) → i < length seen → of ≡ get_or seen i of → new ≡ least_of least of.reached.completed →
    IsLeast (completed_by (take i seen)) least → IsLeast (completed_by (take (i + 1) seen)) new
least_more seen i of least new within is new_is so_far =
    let more : completed_by (take (i + 1) seen) ≡ completed_by (take i seen) ++ of.reached.completed ∷ [] =
    map_more (λ (s : Seen). s.reached.completed) seen i of within
    ∙ ap (λ (s : Seen). completed_by (take i seen) ++ s.reached.completed ∷ []) (sym is) in
    subst (λ (l : List (Option LogicalTime)). IsLeast l new) (sym more)
    (subst (IsLeast (completed_by (take i seen) ++ of.reached.completed ∷ [])) (sym new_is)
    (least_with_one (completed_by (take i seen)) least of.reached.completed so_far))
