-- Least delays, as they are computed: round by round, a connection more each time.
use Rattle.std.proofs.Common.{◌≡◌, ℕ, suc, ◌+◌, ◌<◌, inl, inr, Bool, true, false, List, [], ◌∷◌, ◌++◌, length, refl, ap, sym, ◌∙◌, arith, get_or, drop, below_more, subst}
use Rattle.std.specs.Prelude.{Option, None, Some, nat_eq, if◌then◌else◌, slice_set}
use Rattle.std.proofs.lemmas.Bool.Decides.{eqb_tells}
use Rattle.std.proofs.lemmas.List.{drop_more, get_or_default, get_or_append_left, get_or_push, get_or-set_same, get_or-set_other}
use Rattle.std.proofs.lemmas.List.Elements.{All-head, All-tail}
use Rattle.tag.specs.LogicalTime.{LogicalTime}
use Rattle.tag.proofs.Order.{lesser_associates}
use Rattle.network.specs.Connection.{Connection}
use Rattle.plan_paths.specs.Least.{lesser_of, least_ending, least_into, least_within, IsLeastRow}
use Rattle.plan_paths.proofs.Levels.{EndsBelow}

-- ---- the lesser of three

lesser_of_assoc : (o p q : Option LogicalTime) → lesser_of (lesser_of o p) q ≡ lesser_of o (lesser_of p q)
lesser_of_assoc None p q = refl
lesser_of_assoc (Some d) None q = refl
lesser_of_assoc (Some d) (Some e) None = refl
lesser_of_assoc (Some d) (Some e) (Some f) = ap Some (sym (lesser_associates f e d))

lesser_of_none : (o : Option LogicalTime) → lesser_of o None ≡ o
lesser_of_none None = refl
lesser_of_none (Some d) = refl

-- ---- one round

into_at : (least : ℕ → Option LogicalTime) (i j : ℕ) (cs : List Connection) (k : ℕ) (c : Connection) → k < length cs → c ≡ get_or cs k c
    → least_into least i j (drop k cs) ≡ lesser_of (if nat_eq c.target j then least_ending least i c else None) (least_into least i j (drop (k + 1) cs))
into_at least i j cs k c below here =
    ap (least_into least i j) (drop_more cs k c below)
    ∙ ap (λ (x : Connection). lesser_of (if nat_eq x.target j then least_ending least i x else None) (least_into least i j (drop (k + 1) cs))) (sym here)

changed : (own : Bool) (old new last rest : Option LogicalTime) → new ≡ (if own then lesser_of old last else old)
    → lesser_of new rest ≡ lesser_of old (lesser_of (if own then last else None) rest)
changed true old new last rest is = ap (λ o. lesser_of o rest) is ∙ lesser_of_assoc old last rest
changed false old new last rest is = ap (λ o. lesser_of o rest) is

-- one more connection
into_more : (least : ℕ → Option LogicalTime) (i j : ℕ) (cs : List Connection) (k : ℕ) (c : Connection) (old new whole : Option LogicalTime) → k < length cs → c ≡ get_or cs k c
    → new ≡ (if nat_eq c.target j then lesser_of old (least_ending least i c) else old)
    → lesser_of old (least_into least i j (drop k cs)) ≡ whole → lesser_of new (least_into least i j (drop (k + 1) cs)) ≡ whole
into_more least i j cs k c old new whole below here is so_far =
    changed (nat_eq c.target j) old new (least_ending least i c) (least_into least i j (drop (k + 1) cs)) is
    ∙ ap (lesser_of old) (sym (into_at least i j cs k c below here)) ∙ so_far

-- the delay at its target is replaced by the lesser of it and this last one
placed : (xs : List (Option LogicalTime)) (target j : ℕ) (read new last : Option LogicalTime) → target < length xs → read ≡ get_or xs target read → new ≡ lesser_of read last
    → get_or (slice_set xs target new) j None ≡ (if nat_eq target j then lesser_of (get_or xs j None) last else get_or xs j None)
placed xs target j read new last below here is =
    elim (eqb_tells target j) [
      | inl same ↦
          (let there : read ≡ get_or xs j None
          = here ∙ get_or_default xs target read None below ∙ ap (λ k. get_or xs k None) same.1 in
          rw same.0
          (subst (λ k. get_or (slice_set xs target new) k None ≡ lesser_of (get_or xs j None) last) same.1
          (get_or-set_same xs target new None below ∙ is ∙ ap (λ o. lesser_of o last) there)))
      | inr other ↦ rw other.0 (get_or-set_other xs target j new None (λ e. other.1 (sym e)))
    ]

pub round_more : (least : ℕ → Option LogicalTime) (i j : ℕ) (cs : List Connection) (k : ℕ) (c : Connection) (xs : List (Option LogicalTime)) (target : ℕ) (read new last whole : Option LogicalTime)
    → k < length cs → c ≡ get_or cs k c → target ≡ c.target → target < length xs → read ≡ get_or xs target read → new ≡ lesser_of read last → last ≡ least_ending least i c
    → lesser_of (get_or xs j None) (least_into least i j (drop k cs)) ≡ whole → lesser_of (get_or (slice_set xs target new) j None) (least_into least i j (drop (k + 1) cs)) ≡ whole
round_more least i j cs k c xs target read new last whole below here to to_below read_is new_is last_is so_far =
    into_more least i j cs k c (get_or xs j None) (get_or (slice_set xs target new) j None) whole below here
    (placed xs target j read new last to_below read_is new_is
    ∙ ap (λ t. if nat_eq t j then lesser_of (get_or xs j None) last else get_or xs j None) to
    ∙ ap (λ o. if nat_eq c.target j then lesser_of (get_or xs j None) o else get_or xs j None) last_is)
    so_far

-- ---- all rounds

pub into-agrees : (f g : ℕ → Option LogicalTime) (n i j : ℕ) (cs : List Connection) → EndsBelow n cs → ((m : ℕ) → m < n → f m ≡ g m) → least_into f i j cs ≡ least_into g i j cs
into-agrees f g n i j [] ends same = refl
into-agrees f g n i j (c ∷ cs) ends same =
    let here : (c.source < n) × (c.target < n) = All-head (λ (x : Connection). (x.source < n) × (x.target < n)) c cs ends in
    let source : f c.source ≡ g c.source = same c.source here.0 in
    let rest : least_into f i j cs ≡ least_into g i j cs
    = into-agrees f g n i j cs (All-tail (λ (x : Connection). (x.source < n) × (x.target < n)) c cs ends) same in
    rw (source, rest) refl

-- the delays after one more round
pub next_round : (next delays : List (Option LogicalTime)) (cs : List Connection) (most count i : ℕ) → EndsBelow count cs
    → ((j : ℕ) → j < count → get_or delays j None ≡ least_within cs most i j)
    → ((j : ℕ) → j < count → get_or next j None ≡ least_into (λ m. get_or delays m None) i j cs)
    → (j : ℕ) → j < count → get_or next j None ≡ least_within cs (most + 1) i j
next_round next delays cs most count i ends is into j below =
    let more : suc most ≡ most + 1 = omega arith in
    into j below ∙ into-agrees (λ m. get_or delays m None) (least_within cs most i) count i j cs ends is ∙ ap (λ m. least_within cs m i j) more

-- one more row
pub row_pushed : (cs : List Connection) (count : ℕ) (rows more : List (List (Option LogicalTime))) (n : ℕ) (row : List (Option LogicalTime)) → length rows ≡ n → more ≡ rows ++ row ∷ []
    → ((i : ℕ) → i < n → IsLeastRow cs count i (get_or rows i [])) → IsLeastRow cs count n row → (i : ℕ) → i < n + 1 → IsLeastRow cs count i (get_or more i [])
row_pushed cs count rows more n row len is so_far here =
    below_more (λ i. IsLeastRow cs count i (get_or more i [])) n
    (λ i below. subst (λ r. IsLeastRow cs count i r) (sym (ap (λ zs. get_or zs i []) is ∙ get_or_append_left rows (row ∷ []) [] i (omega arith))) (so_far i below))
    (subst (λ r. IsLeastRow cs count n r) (sym (ap (λ zs. get_or zs n []) is ∙ get_or_push rows row [] n len)) here)
