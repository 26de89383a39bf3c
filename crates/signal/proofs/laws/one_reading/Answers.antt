use Rattle.std.proofs.Common.{List, ℕ, ◌++◌, sym, ap, ◌∙◌}
use Rattle.std.proofs.lemmas.List.{append_cancel_right}
use Rattle.signal.proofs.Framing.{same_reading}
use Rattle.signal.proofs.laws.one_reading.Goals as goal

pub returns : goal.returns
returns c = λ a b x y frames others p q e.
    let both = same_reading a b x y frames others p q e in
    (both.frames_are, append_cancel_right a b y (ap (λ (r : List ℕ). a ++ r) (sym both.rest_is) ∙ e), both.rest_is)
