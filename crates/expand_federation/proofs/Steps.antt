-- Two tables, member by member.
use Rattle.std.proofs.Common.{◌≡◌, List, [], ◌∷◌, ◌++◌, String, Global, string_bytes, append_assoc, sym, ap, ◌∙◌}
use Rattle.toml.specs.View.{view, members_view}
use Rattle.toml.specs.declared.value.Value.{Value}
use Rattle.toml.proofs.Views.{Entry, with_last, members_view-last}

same_last : (done seen : List Entry) (k l : String Global) (v w : Value) → members_view done ≡ members_view seen → string_bytes k ≡ string_bytes l → view v ≡ view w
    → with_last (members_view done) (string_bytes k) (view v) ≡ with_last (members_view seen) (string_bytes l) (view w)
same_last done seen k l v w same named viewed = ap (λ ms. with_last ms (string_bytes k) (view v)) same ∙ ap (λ n. with_last (members_view seen) n (view v)) named ∙ ap (λ d. with_last (members_view seen) (string_bytes l) d) viewed

-- one more member of both
pub one_more : (all others done seen left rest new_left new_rest : List Entry) (k l : String Global) (v w : Value) → all ≡ done ++ left → others ≡ seen ++ rest
    → members_view done ≡ members_view seen → left ≡ (k, v) ∷ new_left → rest ≡ (l, w) ∷ new_rest → string_bytes k ≡ string_bytes l → view v ≡ view w
    → (more met : List Entry) × (all ≡ more ++ new_left) × (others ≡ met ++ new_rest) × (members_view more ≡ members_view met)
one_more all others done seen left rest new_left new_rest k l v w is are same first other named viewed = (
  done ++ (k, v) ∷ [],
  seen ++ (l, w) ∷ [],
  is ∙ ap (λ es. done ++ es) first ∙ sym (append_assoc done ((k, v) ∷ []) new_left),
  are ∙ ap (λ es. seen ++ es) other ∙ sym (append_assoc seen ((l, w) ∷ []) new_rest),
  members_view-last done k v ∙ same_last done seen k l v w same named viewed ∙ sym (members_view-last seen l w),
)
