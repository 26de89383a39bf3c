-- Tags in transit, and the ordered set that holds them.
use Rattle.std.proofs.Common.{◌≡◌, true, false, List, [], ◌∷◌, refl, ap, ◌∙◌, arith, Ordering, Less, Equal, Greater}
use Rattle.std.specs.Prelude.{filter, slice_get, if◌then◌else◌}
use Rattle.std.specs.List.{AllByRecursion}
use Rattle.std.specs.List.Sorted.{IsStrictlySortedBy}
use Rattle.std.specs.Ordering.{match_ordering}
use Rattle.std.specs.BTreeSet.{insert_key}
use Rattle.std.proofs.lemmas.Bool.Decides.{nat_tests}
use Rattle.tag.specs.LogicalTime.{LogicalTime, is_before, lesser}
use Rattle.tag.specs.contracts.finite_tag.FiniteTagOrd.TheImpl as finite_tag_ord
use Rattle.tag.proofs.Order.{before_transitive, not_at_most}
use Rattle.protocol.specs.FederateRecord.{with_tag, least_with}
use Rattle.grants.specs.Transit.{lesser_with, has_up_to, Rises}

-- the order of the set's tags
abbrev pub tag_cmp : LogicalTime → LogicalTime → Ordering
tag_cmp = (finite_tag_ord.ghosts).cmp

before_is : (g h : LogicalTime) → tag_cmp g h ≡ Less → is_before g h ≡ true
before_is g h e = grind (arith, nat_tests)

-- insertion is putting a tag in its place
inserted_at : (g x : LogicalTime) (rest more : List LogicalTime) → more ≡ with_tag g rest → (o : Ordering) → tag_cmp g x ≡ o →
    match_ordering o (g ∷ x ∷ rest) (x ∷ rest) (x ∷ more) ≡ with_tag g (x ∷ rest)
inserted_at g x rest more e Less h = grind (arith, nat_tests)
inserted_at g x rest more e Equal h = grind (arith, nat_tests)
inserted_at g x rest more e Greater h = grind (arith, nat_tests)

pub inserted : (tags : List LogicalTime) (g : LogicalTime) → insert_key tag_cmp tags g ≡ with_tag g tags
inserted [] g = refl
inserted (x ∷ rest) g = inserted_at g x rest (insert_key tag_cmp rest g) (inserted rest g) (tag_cmp g x) refl

all_before : (g : LogicalTime) (tags : List LogicalTime) → AllByRecursion (λ h. tag_cmp g h ≡ Less) tags → AllByRecursion (λ h. is_before g h ≡ true) tags
all_before g [] a = tt
all_before g (h ∷ tags) a = (before_is g h a.0, all_before g tags a.1)

pub rises : (tags : List LogicalTime) → IsStrictlySortedBy tag_cmp tags → Rises tags
unfolding IsStrictlySortedBy
rises [] r = tt
rises (g ∷ rest) r = (all_before g rest r.0, rises rest r.1)

-- what is later than the first is later than the least of all
least_of_later : (g tag : LogicalTime) (rest : List LogicalTime) → AllByRecursion (λ h. is_before g h ≡ true) rest → lesser g (least_with tag rest) ≡ lesser g tag
least_of_later g tag [] a = refl
least_of_later g tag (h ∷ rest) a = later_first g h (least_with tag rest) a.0 ∙ least_of_later g tag rest a.1
  where
    later_first : (g h k : LogicalTime) → is_before g h ≡ true → lesser g (lesser h k) ≡ lesser g k
    later_first g h k e = grind (arith, nat_tests)

pub least_is : (tags : List LogicalTime) (tag : LogicalTime) → Rises tags → least_with tag tags ≡ lesser_with tag (slice_get tags 0)
least_is [] tag r = refl
least_is (g ∷ rest) tag r = least_of_later g tag rest r.0

-- ---- dropping the first ones

none_dropped : (last g : LogicalTime) (rest : List LogicalTime) → is_before last g ≡ true → AllByRecursion (λ h. is_before g h ≡ true) rest →
    filter (λ t. is_before last t) rest ≡ rest
none_dropped last g [] e a = refl
none_dropped last g (h ∷ rest) e a =
    ap (λ b. if b then h ∷ filter (λ t. is_before last t) rest else filter (λ t. is_before last t) rest) (before_transitive last g h e a.0)
    ∙ ap (λ hs. h ∷ hs) (none_dropped last g rest e a.1)

pub all_later : (tags : List LogicalTime) (last : LogicalTime) → Rises tags → has_up_to last tags ≡ false → filter (λ t. is_before last t) tags ≡ tags
all_later [] last r h = refl
all_later (g ∷ rest) last r h =
    ap (λ b. if b then g ∷ filter (λ t. is_before last t) rest else filter (λ t. is_before last t) rest) (not_at_most g last h)
    ∙ ap (λ hs. g ∷ hs) (none_dropped last g rest (not_at_most g last h) r.0)
