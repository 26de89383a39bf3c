-- Signals in order, and then more of them in order, are in order.
use Rattle.std.proofs.Common.{◌≡◌, Bool, true, false, List, [], ◌∷◌, ◌++◌, refl, sym, ap, ◌∙◌, Option, Some}
use Rattle.std.specs.Prelude.{◌&&◌}
use Rattle.tag.specs.LogicalTime.{LogicalTime, is_past}
use Rattle.signal.specs.declared.signal.Signal.{Signal}
use Rattle.signal.specs.declared.signal.Signal.TheVariants.{Net, Ltc, Tag, Msg}
use Rattle.protocol.specs.KeptAlone.{may_go_up, completed_by_ltcs, may_go_down, granted_by_tags}

both_then : (a b c : Bool) → (a && (b && c)) ≡ ((a && b) && c)
both_then true b c = refl
both_then false b c = refl

pub may_go_up-append : (completed : Option LogicalTime) (xs ys : List Signal) → may_go_up completed (xs ++ ys) ≡ (may_go_up completed xs && may_go_up (completed_by_ltcs completed xs) ys)
may_go_up-append completed [] ys = refl
may_go_up-append completed (Net g ∷ xs) ys = may_go_up-append completed xs ys
may_go_up-append completed (Ltc g ∷ xs) ys =
    ap (λ b. is_past completed g && b) (may_go_up-append (Some g) xs ys) ∙ both_then (is_past completed g) (may_go_up (Some g) xs) (may_go_up (completed_by_ltcs (Some g) xs) ys)
may_go_up-append completed (Tag g ∷ xs) ys = refl
may_go_up-append completed (Msg k g v ∷ xs) ys =
    ap (λ b. is_past completed g && b) (may_go_up-append completed xs ys) ∙ both_then (is_past completed g) (may_go_up completed xs) (may_go_up (completed_by_ltcs completed xs) ys)

pub completed_by_ltcs-append : (completed : Option LogicalTime) (xs ys : List Signal) → completed_by_ltcs completed (xs ++ ys) ≡ completed_by_ltcs (completed_by_ltcs completed xs) ys
completed_by_ltcs-append completed [] ys = refl
completed_by_ltcs-append completed (Net g ∷ xs) ys = completed_by_ltcs-append completed xs ys
completed_by_ltcs-append completed (Ltc g ∷ xs) ys = completed_by_ltcs-append (Some g) xs ys
completed_by_ltcs-append completed (Tag g ∷ xs) ys = completed_by_ltcs-append completed xs ys
completed_by_ltcs-append completed (Msg k g v ∷ xs) ys = completed_by_ltcs-append completed xs ys

pub may_go_down-append : (granted : Option LogicalTime) (xs ys : List Signal) → may_go_down granted (xs ++ ys) ≡ (may_go_down granted xs && may_go_down (granted_by_tags granted xs) ys)
may_go_down-append granted [] ys = refl
may_go_down-append granted (Net g ∷ xs) ys = refl
may_go_down-append granted (Ltc g ∷ xs) ys = refl
may_go_down-append granted (Tag g ∷ xs) ys =
    ap (λ b. is_past granted g && b) (may_go_down-append (Some g) xs ys) ∙ both_then (is_past granted g) (may_go_down (Some g) xs) (may_go_down (granted_by_tags (Some g) xs) ys)
may_go_down-append granted (Msg k g v ∷ xs) ys =
    ap (λ b. is_past granted g && b) (may_go_down-append granted xs ys) ∙ both_then (is_past granted g) (may_go_down granted xs) (may_go_down (granted_by_tags granted xs) ys)

pub granted_by_tags-append : (granted : Option LogicalTime) (xs ys : List Signal) → granted_by_tags granted (xs ++ ys) ≡ granted_by_tags (granted_by_tags granted xs) ys
granted_by_tags-append granted [] ys = refl
granted_by_tags-append granted (Net g ∷ xs) ys = granted_by_tags-append granted xs ys
granted_by_tags-append granted (Ltc g ∷ xs) ys = granted_by_tags-append granted xs ys
granted_by_tags-append granted (Tag g ∷ xs) ys = granted_by_tags-append (Some g) xs ys
granted_by_tags-append granted (Msg k g v ∷ xs) ys = granted_by_tags-append granted xs ys
