-- A filter, one connection more.
use Rattle.std.proofs.Common.{◌≡◌, ℕ, ◌+◌, ◌<◌, Bool, true, false, cond, List, [], ◌∷◌, ◌++◌, length, take, get_or, sym, ap, ◌∙◌}
use Rattle.std.specs.Prelude.{filter}
use Rattle.std.proofs.lemmas.List.{append-nil}
use Rattle.std.proofs.lemmas.List.Elements.{filter_more}
use Rattle.network.specs.Connection.{Connection}

more_is : (test : Connection → Bool) (xs : List Connection) (i : ℕ) (x : Connection) (is : Bool) → i < length xs → x ≡ get_or xs i x → test x ≡ is →
    filter test (take (i + 1) xs) ≡ filter test (take i xs) ++ cond is (x ∷ []) []
more_is test xs i x is within at tested =
    filter_more test xs i x within ∙ ap (λ (y : Connection). filter test (take i xs) ++ cond (test y) (y ∷ []) []) (sym at) ∙
    ap (λ b. filter test (take i xs) ++ cond b (x ∷ []) []) tested

-- it passes the test
pub one_passed : (test : Connection → Bool) (xs before after : List Connection) (i : ℕ) (x : Connection) → i < length xs → x ≡ get_or xs i x → test x ≡ true →
    before ≡ filter test (take i xs) → after ≡ before ++ x ∷ [] → after ≡ filter test (take (i + 1) xs)
one_passed test xs before after i x within at passes so is =
    is ∙ ap (λ (ys : List Connection). ys ++ x ∷ []) so ∙ sym (more_is test xs i x true within at passes)

-- it fails
pub one_failed : (test : Connection → Bool) (xs before after : List Connection) (i : ℕ) (x : Connection) → i < length xs → x ≡ get_or xs i x → test x ≡ false →
    before ≡ filter test (take i xs) → after ≡ before → after ≡ filter test (take (i + 1) xs)
one_failed test xs before after i x within at fails so is =
    is ∙ so ∙ sym (append-nil (filter test (take i xs))) ∙ sym (more_is test xs i x false within at fails)
