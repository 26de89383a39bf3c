-- Zero-delay cycles: what is found is one, and where nothing is found there is none.
use Rattle.std.proofs.Common.{◌≡◌, ◌≢◌, ℕ, zero, suc, ◌+◌, ◌<◌, ◌≤◌, Bool, true, false, List, [], ◌∷◌, ◌++◌, length, map, refl, ap, sym, ◌∙◌, arith, subst, inl, inr, ◌⊎◌, eqb, ◌||◌, get_or, drop}
use Rattle.std.specs.Prelude.{All, AllPairs, Contains, nat_eq, if◌then◌else◌}
use Rattle.std.specs.List.{list_any}
use Rattle.std.proofs.lemmas.Bool.Decides.{nat_tests, leb_tells, eqb_tells, Decides-eqb}
use Rattle.std.proofs.lemmas.List.{append-nil, drop_all, length-map}
use Rattle.std.proofs.lemmas.List.Elements.{All-nil, All-cons, All-head, All-tail, All-contains, Contains-get_or}
use Rattle.std.proofs.lemmas.List.Kept.{AllPairs-cons}
use Rattle.std.proofs.lemmas.Map.Made.{IsDistinct-from_AllPairs}
use Rattle.std.proofs.lemmas.Map.Steps.{length-le_from_distinct_below}
use Rattle.std.proofs.lemmas.Bool.{eqb-true}
use Rattle.tag.specs.LogicalTime.{origin}
use Rattle.network.specs.Connection.{Connection, IsWalk, IsPath}
use Rattle.network.proofs.Walks.{AreZeroDelay, walk_of_path, zero_delay_from_total, total_from_zero_delay}
use Rattle.plan_paths.specs.Cycles.{HasNoCycleAt, IsCycleFrom, IsSimpleZeroDelayPath, IsSource, IsReached, JoinsTree}
use Rattle.plan_paths.specs.Cycles.{IsTree}
use Rattle.plan_paths.proofs.Levels.{EndsBelow}
use Rattle.plan_paths.proofs.Paths.{zero_delay_test, zero_delay_from_test}

-- ---- zero-delay walks

abbrev pub Leads : List Connection → ℕ → List Connection → ℕ → Type 0
Leads cs i walk j = IsWalk cs i walk j × AreZeroDelay walk

further : (cs : List Connection) (i : ℕ) (front : List Connection) (j : ℕ) (back : List Connection) (k : ℕ)
    → Leads cs i front j → Leads cs j back k → Leads cs i (front ++ back) k
further cs i [] j back k first next = subst (λ m. Leads cs m back k) (sym first.0) next
further cs i (c ∷ front) j back k first next =
    let on : Leads cs c.target (front ++ back) k = further cs c.target front j back k (first.0.2, first.1.1) next in
    ((first.0.0, first.0.1, on.0), (first.1.0, on.1))

leads_nowhere : (cs : List Connection) (i : ℕ) (c : Connection) (rest : List Connection) → HasNoCycleAt cs i → Leads cs i (c ∷ rest) i → ⊥
leads_nowhere cs i c rest none leads =
    none (c ∷ rest) leads.0 (total_from_zero_delay (c ∷ rest) leads.1)

-- ---- a cycle goes round from each of its federates

each_on : (cs : List Connection) (P : ℕ → Type 0) (i : ℕ) (path : List Connection) (j : ℕ) → Leads cs i path j
    → ((m : ℕ) (front : List Connection) (c : Connection) (back : List Connection) → Leads cs i front m → Leads cs m (c ∷ back) j → P m)
    → All (λ c. P c.source) path
each_on cs P i [] j leads reached = All-nil (λ (c : Connection). P c.source)
each_on cs P i (c ∷ rest) j leads reached =
    All-cons (λ (x : Connection). P x.source) c rest
    (subst P (sym leads.0.1) (reached i [] c rest (refl, tt) leads))
    (each_on cs P c.target rest j (leads.0.2, leads.1.1)
    (λ m front d back first next. reached m (c ∷ front) d back ((leads.0.0, leads.0.1, first.0), (leads.1.0, first.1)) next))

-- so where none goes through a lower federate, it begins with its lowest
lowest_from : (cs : List Connection) (start : ℕ) (path : List Connection) → ((lower : ℕ) → lower < start → HasNoCycleAt cs lower)
    → Leads cs start path start → All (λ c. start ≤ c.source) path
lowest_from cs start path none leads =
    each_on cs (λ m. start ≤ m) start path start leads
    (λ m front c back first next.
    elim (leb_tells start m) [
      | inl low ↦ low.1
      | inr high ↦ absurd (leads_nowhere cs m c (back ++ front) (none m high.1) (further cs m (c ∷ back) start front m next first))
    ])

-- ---- where connections begin

no_source : (i : ℕ) → IsSource [] i → ⊥
no_source i h = let below : h.0 < 0 = h.2 in omega arith

source_first : (c : Connection) (tree : List Connection) (i : ℕ) → c.source ≡ i → IsSource (c ∷ tree) i
source_first c tree i e = (0, c, omega arith, refl, e)

source_later : (c : Connection) (tree : List Connection) (i : ℕ) → IsSource tree i → IsSource (c ∷ tree) i
source_later c tree i h = let below : h.0 < length tree = h.2 in (suc h.0, h.1, omega arith, h.3, h.4)

source_cases : (c : Connection) (tree : List Connection) (i : ℕ) → IsSource (c ∷ tree) i → (c.source ≡ i) ⊎ IsSource tree i
source_cases c tree i h = placed h.0 h.1 h.2 h.3 h.4
  where
    placed : (k : ℕ) (x : Connection) → k < length (c ∷ tree) → get_or (c ∷ tree) k x ≡ x → x.source ≡ i → (c.source ≡ i) ⊎ IsSource tree i
    placed zero x below here source = inl (ap (λ (y : Connection). y.source) here ∙ source)
    placed (suc k) x below here source = inr (k, x, omega arith, here, source)

decided : (tree : List Connection) (i : ℕ) → IsSource tree i ⊎ (¬ IsSource tree i)
decided [] i = inr (no_source i)
decided (c ∷ tree) i =
    elim (eqb_tells c.source i) [
      | inl same ↦ inl (source_first c tree i same.1)
      | inr other ↦ later other.1 (decided tree i)
    ]
  where
    later : (c.source ≡ i → ⊥) → IsSource tree i ⊎ (¬ IsSource tree i) → IsSource (c ∷ tree) i ⊎ (¬ IsSource (c ∷ tree) i)
    later other (inl there) = inl (source_later c tree i there)
    later other (inr none) =
        inr (λ h. elim (source_cases c tree i h) [
          | inl same ↦ other same
          | inr there ↦ none there
        ])

-- ---- trees

-- a tree of these connections, none of which begins at its root
pub record IsGrown (cs : List Connection) (root : ℕ) (tree : List Connection) : Type 0 where
  pub is_tree : IsTree root tree
  pub contained : All (λ c. Contains cs c) tree
  pub root_apart : ¬ IsSource tree root

pub grown_none : (cs : List Connection) (root : ℕ) → IsGrown cs root []
grown_none cs root = record { is_tree = tt; contained = All-nil (λ (c : Connection). Contains cs c); root_apart = no_source root }

-- the tree with one more connection
pub grown_more : (cs : List Connection) (root : ℕ) (tree : List Connection) (c : Connection)
    → IsGrown cs root tree → Contains cs c → JoinsTree root tree c → c.source ≢ root → IsGrown cs root (c ∷ tree)
grown_more cs root tree c grown contained joined other = record {
  is_tree = (joined, grown.is_tree);
  contained = All-cons (λ (x : Connection). Contains cs x) c tree contained grown.contained;
  root_apart = λ h. elim (source_cases c tree root h) [
    | inl same ↦ other same
    | inr there ↦ grown.root_apart there
  ];
}

-- where no connection joins, each zero-delay one that leads to the root begins where one of the tree does
closed_by_one : (cs : List Connection) (root : ℕ) (tree : List Connection) → All (λ c. ¬ JoinsTree root tree c) cs
    → (i : ℕ) (c : Connection) → Contains cs c → c.delay ≡ origin → c.source ≡ i → IsReached root tree c.target
    → IsSource tree i
closed_by_one cs root tree closed i c contained zero_delay source onward =
    elim (decided tree i) [
      | inl begun ↦ begun
      | inr none ↦
          absurd (All-contains (λ (x : Connection). ¬ JoinsTree root tree x) cs c closed contained
          (record { zero_delay = zero_delay_test c zero_delay; onward = onward; apart = λ h. none (subst (λ m. IsSource tree m) source h) }))
    ]

closed_back : (cs : List Connection) (root : ℕ) (tree : List Connection) → All (λ c. ¬ JoinsTree root tree c) cs
    → (i : ℕ) (c : Connection) (rest : List Connection) → Leads cs i (c ∷ rest) root → IsSource tree i
closed_back cs root tree closed i c [] leads = closed_by_one cs root tree closed i c leads.0.0 leads.1.0 leads.0.1 (inl leads.0.2)
closed_back cs root tree closed i c (d ∷ rest) leads =
    closed_by_one cs root tree closed i c leads.0.0 leads.1.0 leads.0.1 (inr (closed_back cs root tree closed c.target d rest (leads.0.2, leads.1.1)))

-- so none is on a cycle with the root
pub none_from_closed : (cs : List Connection) (root : ℕ) (tree : List Connection) → IsGrown cs root tree
    → All (λ c. ¬ JoinsTree root tree c) cs → HasNoCycleAt cs root
none_from_closed cs root tree grown closed path is_path total =
    round path (walk_of_path cs root path root is_path, zero_delay_from_total path total) is_path
  where
    round : (path : List Connection) → Leads cs root path root → IsPath cs root path root → ⊥
    round [] leads is_path = is_path
    round (c ∷ rest) leads is_path = grown.root_apart (closed_back cs root tree closed root c rest leads)

-- ---- a tree has fewer connections than there are federates

abbrev sources : List Connection → List ℕ
sources tree = map (λ (c : Connection). c.source) tree

apart_from_all : (i : ℕ) (tree : List Connection) → ¬ IsSource tree i → All (λ j. i ≢ j) (sources tree)
apart_from_all i [] none = All-nil (λ j. i ≢ j)
apart_from_all i (c ∷ tree) none =
    All-cons (λ j. i ≢ j) c.source (sources tree) (λ same. none (source_first c tree i (sym same)))
    (apart_from_all i tree (λ there. none (source_later c tree i there)))

all_apart : (root : ℕ) (tree : List Connection) → IsTree root tree → AllPairs (λ i j. i ≢ j) (sources tree)
all_apart root [] is_tree = λ i j d i_below j_below. absurd (omega arith)
all_apart root (c ∷ tree) is_tree =
    AllPairs-cons (λ i j. i ≢ j) c.source (sources tree) (apart_from_all c.source tree is_tree.0.apart) (all_apart root tree is_tree.1)

sources_below : (cs : List Connection) (n : ℕ) (tree : List Connection) → EndsBelow n cs → All (λ c. Contains cs c) tree
    → (q : ℕ) → list_any (eqb q) (sources tree) ≡ true → q < n
sources_below cs n [] ends contained q found = cc
sources_below cs n (c ∷ tree) ends contained q found =
    let bound : (c.source < n) × (c.target < n)
    = All-contains (λ (x : Connection). (x.source < n) × (x.target < n)) cs c ends (All-head (λ (x : Connection). Contains cs x) c tree contained) in
    either q c.source (list_any (eqb q) (sources tree)) bound.0 found
    (sources_below cs n tree ends (All-tail (λ (x : Connection). Contains cs x) c tree contained) q)
  where
    either : (q s : ℕ) (b : Bool) → s < n → (eqb q s || b) ≡ true → (b ≡ true → q < n) → q < n
    either q s true below found later = later refl
    either q s false below found later = grind (arith, nat_tests)

pub tree_is_small : (cs : List Connection) (n root : ℕ) (tree : List Connection) → EndsBelow n cs → root < n → IsGrown cs root tree → length tree < n
tree_is_small cs n root tree ends root_below grown =
    let bound : length (root ∷ sources tree) ≤ n
    = length-le_from_distinct_below (root ∷ sources tree) n
    (IsDistinct-from_AllPairs Decides-eqb (root ∷ sources tree)
    (AllPairs-cons (λ i j. i ≢ j) root (sources tree) (apart_from_all root tree grown.root_apart) (all_apart root tree grown.is_tree)))
    (λ q found. either q (list_any (eqb q) (sources tree)) found (sources_below cs n tree ends grown.contained q)) in
    omega (arith, length-map tree (λ (c : Connection). c.source))
  where
    either : (q : ℕ) (b : Bool) → (eqb q root || b) ≡ true → (b ≡ true → q < n) → q < n
    either q true found later = later refl
    either q false found later = grind (arith, nat_tests)

-- ---- the way along a tree

-- the way from a federate: on by the first of the connections left that begins where it has come to
abbrev pub way_from : ℕ → List Connection → List Connection
way_from federate [] = []
way_from federate (c ∷ tree) = if nat_eq c.source federate then c ∷ way_from c.target tree else way_from federate tree

no_number_of_test : (m n : ℕ) → nat_eq m n ≡ false → m ≢ n
no_number_of_test m n e = grind (arith, nat_tests)

way_leads : (cs : List Connection) (root : ℕ) (tree : List Connection) → All (λ c. Contains cs c) tree → IsTree root tree
    → (i : ℕ) → IsReached root tree i → Leads cs i (way_from i tree) root
way_leads cs root [] contained is_tree i (inl here) = (here, tt)
way_leads cs root [] contained is_tree i (inr there) = absurd (no_source i there)
way_leads cs root (c ∷ tree) contained is_tree i start =
    chosen (nat_eq c.source i) refl start (way_leads cs root tree (All-tail (λ (x : Connection). Contains cs x) c tree contained) is_tree.1)
  where
    later : c.source ≢ i → IsReached root (c ∷ tree) i → IsReached root tree i
    later other (inl here) = inl here
    later other (inr there) =
        elim (source_cases c tree i there) [
          | inl same ↦ absurd (other same)
          | inr rest ↦ inr rest
        ]

    chosen : (b : Bool) → nat_eq c.source i ≡ b → IsReached root (c ∷ tree) i
        → ((j : ℕ) → IsReached root tree j → Leads cs j (way_from j tree) root)
        → Leads cs i (if b then c ∷ way_from c.target tree else way_from i tree) root
    chosen true e start rest =
        let on : Leads cs c.target (way_from c.target tree) root = rest c.target is_tree.0.onward in
        ((All-head (λ (x : Connection). Contains cs x) c tree contained, eqb-true c.source i e, on.0), (zero_delay_from_test c is_tree.0.zero_delay, on.1))
    chosen false e start rest = rest i (later (no_number_of_test c.source i e) start)

-- what holds of each federate at which a tree begins holds along the way
way_within : (P : ℕ → Type 0) (tree : List Connection) (i : ℕ) → ((j : ℕ) → IsSource tree j → P j) → All (λ c. P c.source) (way_from i tree)
way_within P [] i each = All-nil (λ (c : Connection). P c.source)
way_within P (c ∷ tree) i each =
    chosen (nat_eq c.source i)
    (way_within P tree c.target (λ j there. each j (source_later c tree j there)))
    (way_within P tree i (λ j there. each j (source_later c tree j there)))
  where
    chosen : (b : Bool) → All (λ c. P c.source) (way_from c.target tree) → All (λ c. P c.source) (way_from i tree)
        → All (λ c. P c.source) (if b then c ∷ way_from c.target tree else way_from i tree)
    chosen true on past = All-cons (λ (x : Connection). P x.source) c (way_from c.target tree) (each c.source (source_first c tree c.source refl)) on
    chosen false on past = past

-- a connection that joins begins apart from the way
apart_from_way : (tree : List Connection) (s i : ℕ) → ¬ IsSource tree s → All (λ c. s ≢ c.source) (way_from i tree)
apart_from_way tree s i none = way_within (λ j. s ≢ j) tree i (λ j there same. none (subst (λ m. IsSource tree m) (sym same) there))

way_apart : (root : ℕ) (tree : List Connection) → IsTree root tree → (i : ℕ) → AllPairs (λ c d. c.source ≢ d.source) (way_from i tree)
way_apart root [] is_tree i = λ j k d j_below k_below. absurd (omega arith)
way_apart root (c ∷ tree) is_tree i = chosen (nat_eq c.source i) (way_apart root tree is_tree.1 c.target) (way_apart root tree is_tree.1 i)
  where
    chosen : (b : Bool) → AllPairs (λ c d. c.source ≢ d.source) (way_from c.target tree) → AllPairs (λ c d. c.source ≢ d.source) (way_from i tree)
        → AllPairs (λ c d. c.source ≢ d.source) (if b then c ∷ way_from c.target tree else way_from i tree)
    chosen true on past =
        AllPairs-cons (λ (x y : Connection). x.source ≢ y.source) c (way_from c.target tree)
        (apart_from_way tree c.source c.target is_tree.0.apart) on
    chosen false on past = past

-- nothing of the tree is left
pub way_ended : (path tree whole : List Connection) (federate i : ℕ) → length tree ≤ i → path ++ way_from federate (drop i tree) ≡ whole → path ≡ whole
way_ended path tree whole federate i past is =
    sym (append-nil path) ∙ ap (λ ts. path ++ way_from federate ts) (sym (drop_all i tree past)) ∙ is

-- along a connection that joins, and then the tree
pub way_whole : (first : Connection) (tree path : List Connection) → path ≡ first ∷ way_from first.target tree
    → (root : ℕ) → JoinsTree root tree first → IsTree root tree → IsSimpleZeroDelayPath (first ∷ tree) first.source path root
way_whole first tree path whole root joined is_tree =
    let contained : All (λ c. Contains (first ∷ tree) c) (first ∷ tree) = λ k d below. Contains-get_or (first ∷ tree) k d below in
    let on : Leads (first ∷ tree) first.target (way_from first.target tree) root
    = way_leads (first ∷ tree) root tree (All-tail (λ (x : Connection). Contains (first ∷ tree) x) first tree contained) is_tree first.target joined.onward in
    subst (λ p. IsSimpleZeroDelayPath (first ∷ tree) first.source p root) (sym whole)
    (record {
      is_path = (All-head (λ (x : Connection). Contains (first ∷ tree) x) first tree contained, refl, on.0);
      zero_delay = total_from_zero_delay (first ∷ way_from first.target tree)
          (zero_delay_from_test first joined.zero_delay, on.1);
      apart = AllPairs-cons (λ (x y : Connection). x.source ≢ y.source) first (way_from first.target tree)
          (apart_from_way tree first.source first.target joined.apart) (way_apart root tree is_tree first.target);
    })

-- a path of some of the connections is one of all
path_of_more : (xs cs : List Connection) → All (λ c. Contains cs c) xs → (i : ℕ) (path : List Connection) (j : ℕ) → IsPath xs i path j → IsPath cs i path j
path_of_more xs cs within i [] j is_path = is_path
path_of_more xs cs within i (c ∷ []) j is_path = (All-contains (λ (x : Connection). Contains cs x) xs c within is_path.0, is_path.1, is_path.2)
path_of_more xs cs within i (c ∷ d ∷ rest) j is_path =
    (All-contains (λ (x : Connection). Contains cs x) xs c within is_path.0, is_path.1, path_of_more xs cs within c.target (d ∷ rest) j is_path.2)

-- a connection that joins and begins at the root closes a cycle
pub cycle_found : (cs : List Connection) (start : ℕ) (tree : List Connection) (c : Connection) (path : List Connection)
    → ((lower : ℕ) → lower < start → HasNoCycleAt cs lower) → IsGrown cs start tree → Contains cs c → c.source ≡ start
    → IsSimpleZeroDelayPath (c ∷ tree) c.source path start → IsCycleFrom cs start path
cycle_found cs start tree c path none grown contained source way =
    let within : All (λ x. Contains cs x) (c ∷ tree) = All-cons (λ (x : Connection). Contains cs x) c tree contained grown.contained in
    let is_path : IsPath cs start path start
    = subst (λ m. IsPath cs m path start) source (path_of_more (c ∷ tree) cs within c.source path start way.is_path) in
    record {
      way = record { is_path = is_path; zero_delay = way.zero_delay; apart = way.apart };
      lowest = lowest_from cs start path none (walk_of_path cs start path start is_path, zero_delay_from_total path way.zero_delay);
    }

-- ---- federates on a path

below_by : (cs : List Connection) (n : ℕ) (c : Connection) → EndsBelow n cs → Contains cs c → c.source < n
below_by cs n c ends contained =
    let bound : (c.source < n) × (c.target < n) = All-contains (λ (x : Connection). (x.source < n) × (x.target < n)) cs c ends contained in bound.0

pub sources_on_path : (cs : List Connection) (n i : ℕ) (path : List Connection) (j : ℕ) → EndsBelow n cs → IsPath cs i path j → All (λ c. c.source < n) path
sources_on_path cs n i [] j ends is_path = absurd is_path
sources_on_path cs n i (c ∷ []) j ends is_path =
    All-cons (λ (x : Connection). x.source < n) c [] (below_by cs n c ends is_path.0) (All-nil (λ (x : Connection). x.source < n))
sources_on_path cs n i (c ∷ d ∷ rest) j ends is_path =
    All-cons (λ (x : Connection). x.source < n) c (d ∷ rest) (below_by cs n c ends is_path.0)
    (sources_on_path cs n c.target (d ∷ rest) j ends is_path.2)
