-- The moments of a file in memory.
use Rattle.std.proofs.Common.{◌≡◌, ◌⊎◌, inl, inr, ℕ, suc, ◌≤◌, List, [], ◌∷◌, ◌++◌, refl, reverse, length, take, drop, sym, ◌∙◌, ap, subst, arith, append_assoc, take-append-drop}
use Rattle.std.proofs.lemmas.List.{reverse-append}
use Rattle.files_keeping.specs.Disk.{IsFrontOf, HasTail, IsCut, Passes, ComesOf, LeavesNoOther}
use Rattle.files_keeping.specs.Memory.{MayLeave, LeftSince, TearsOff, HasAppended, HasSynced}
use Rattle.files_keeping.proofs.Fronts.{not_cut, no_tail}
use Rattle.files_keeping.specs.declared.call.Call.{Call}
use Rattle.files_keeping.specs.declared.call.Call.TheVariants.{Append, Cut, Sync}

pub passes_same : (start : List ℕ) (calls : List Call) → Passes (length calls) (length calls) (LeftSince start calls) (LeftSince start calls) (MayLeave start calls)
passes_same start calls = record { later = omega arith; no_other = λ t left le since. inl since; all = λ t left le past. past }

passes_more : (start : List ℕ) (call : Call) (calls : List Call) → Passes (length calls) (length (call ∷ calls)) (LeftSince start calls) (LeftSince start (call ∷ calls)) (MayLeave start (call ∷ calls))
passes_more start call calls = record { later = omega arith; no_other = λ t left le since. of t left since; all = λ t left le past. inr past }
  where
    of : (t : ℕ) (left : List ℕ) → LeftSince start (call ∷ calls) t left → LeftSince start calls t left ⊎ MayLeave start (call ∷ calls) left
    of t left (inl now) = inr now.1
    of t left (inr past) = inl past

reversed : (call : Call) (old new : List Call) → new ≡ old ++ call ∷ [] → reverse new ≡ call ∷ reverse old
reversed call old new is = ap reverse is ∙ reverse-append old (call ∷ [])

-- one call more
pub passes : (start : List ℕ) (call : Call) (old new : List Call) → new ≡ old ++ call ∷ [] → Passes (length (reverse old)) (length (reverse new)) (LeftSince start (reverse old)) (LeftSince start (reverse new)) (MayLeave start (reverse new))
passes start call old new is =
    subst (λ (calls : List Call). Passes (length (reverse old)) (length calls) (LeftSince start (reverse old)) (LeftSince start calls) (MayLeave start calls)) (sym (reversed call old new is)) (passes_more start call (reverse old))

pub leaves : (start : List ℕ) (call : Call) (old new : List Call) (left : List ℕ) → new ≡ old ++ call ∷ [] → MayLeave start (reverse new) left → MayLeave start (call ∷ reverse old) left
leaves start call old new left is may = subst (λ (calls : List Call). MayLeave start calls left) (reversed call old new is) may

-- a front of a front
pub front_of_front : (n : ℕ) (tail bytes : List ℕ) → IsFrontOf tail (take n bytes) → IsFrontOf tail bytes
front_of_front n tail bytes front = (front.0 ++ drop n bytes, sym (take-append-drop n bytes) ∙ ap (λ (l : List ℕ). l ++ drop n bytes) front.1 ∙ append_assoc tail front.0 (drop n bytes))

-- no call more
pub passes_unchanged : (start : List ℕ) (old new : List Call) → new ≡ old → Passes (length (reverse old)) (length (reverse new)) (LeftSince start (reverse old)) (LeftSince start (reverse new)) (MayLeave start (reverse new))
passes_unchanged start old new is =
    subst (λ (calls : List Call). Passes (length (reverse old)) (length (reverse calls)) (LeftSince start (reverse old)) (LeftSince start (reverse calls)) (MayLeave start (reverse calls))) (sym is) (passes_same start (reverse old))

pub unchanged : (start : List ℕ) (old new : List Call) (left : List ℕ) → new ≡ old → MayLeave start (reverse new) left → MayLeave start (reverse old) left
unchanged start old new left is may = subst (λ (calls : List Call). MayLeave start (reverse calls) left) is may

-- a call that cuts
pub cut_leaves : (start : List ℕ) (n : ℕ) (old new : List Call) → new ≡ old ++ Cut n ∷ [] → ComesOf (IsCut n) (MayLeave start (reverse old)) (MayLeave start (reverse new))
cut_leaves start n old new is left may = leaves start (Cut n) old new left is may

pub uncut_leaves : (start : List ℕ) (n : ℕ) (old new : List Call) → new ≡ old → ComesOf (IsCut n) (MayLeave start (reverse old)) (MayLeave start (reverse new))
uncut_leaves start n old new is left may = (left, unchanged start old new left is may, not_cut n left)

-- one that appends
pub append_leaves : (start bytes : List ℕ) (old new : List Call) → HasAppended bytes old new → ComesOf (λ was left. HasTail TearsOff was bytes left) (MayLeave start (reverse old)) (MayLeave start (reverse new))
append_leaves start bytes old new noted left may =
    let from = leaves start (Append noted.0) old new left noted.2 may in
    (from.0, from.1, subst (λ (l : List ℕ). HasTail TearsOff from.0 l left) noted.1 from.2)

pub perhaps_leaves : (start bytes : List ℕ) (old new : List Call) → (new ≡ old) ⊎ HasAppended bytes old new → ComesOf (λ was left. HasTail TearsOff was bytes left) (MayLeave start (reverse old)) (MayLeave start (reverse new))
perhaps_leaves start bytes old new (inl is) left may = (left, unchanged start old new left is may, no_tail TearsOff left bytes left (bytes, refl) refl)
perhaps_leaves start bytes old new (inr noted) left may = append_leaves start bytes old new noted left may

-- a part of what was to be appended
pub part_leaves : (start bytes : List ℕ) (n : ℕ) (old new : List Call) → (new ≡ old) ⊎ HasAppended (take n bytes) old new → ComesOf (λ was left. HasTail TearsOff was bytes left) (MayLeave start (reverse old)) (MayLeave start (reverse new))
part_leaves start bytes n old new perhaps left may =
    let from = perhaps_leaves start (take n bytes) old new perhaps left may in
    (from.0, from.1, (from.2.0, from.2.1, front_of_front n from.2.0 bytes from.2.2))

pub append_passes : (start bytes : List ℕ) (old new : List Call) → HasAppended bytes old new → Passes (length (reverse old)) (length (reverse new)) (LeftSince start (reverse old)) (LeftSince start (reverse new)) (MayLeave start (reverse new))
append_passes start bytes old new noted = passes start (Append noted.0) old new noted.2

pub perhaps_passes : (start bytes : List ℕ) (old new : List Call) → (new ≡ old) ⊎ HasAppended bytes old new → Passes (length (reverse old)) (length (reverse new)) (LeftSince start (reverse old)) (LeftSince start (reverse new)) (MayLeave start (reverse new))
perhaps_passes start bytes old new (inl is) = passes_unchanged start old new is
perhaps_passes start bytes old new (inr noted) = append_passes start bytes old new noted

-- one that syncs
pub sync_leaves : (start bytes : List ℕ) (old new : List Call) → HasSynced bytes old new → (left : List ℕ) → MayLeave start (reverse new) left → (left ≡ bytes) × MayLeave start (reverse old) left
sync_leaves start bytes old new noted left may =
    let from = leaves start (Sync noted.0) old new left noted.2 may in
    (from.0 ∙ noted.1, from.1)

pub sync_passes : (start bytes : List ℕ) (old new : List Call) → HasSynced bytes old new → Passes (length (reverse old)) (length (reverse new)) (LeftSince start (reverse old)) (LeftSince start (reverse new)) (MayLeave start (reverse new))
sync_passes start bytes old new noted = passes start (Sync noted.0) old new noted.2
