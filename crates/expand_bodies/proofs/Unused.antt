-- Names of scratch states, one more at a time.
use Rattle.std.proofs.Common.{◌≡◌, ℕ, List, [], ◌∷◌, ◌++◌, None, false}
use Rattle.std.specs.List.{list_any}
use Rattle.std.specs.Str.{bytes_eq}
use Rattle.std.proofs.lemmas.Cmp.{nat_list_eq_equiv}
use Rattle.std.proofs.lemmas.List.Elements.{All-nil, All-push}
use Rattle.std.proofs.lemmas.Map.Keys.{IsDistinct-push}
use Rattle.plan_names.specs.Naming.{place_of}
use Rattle.reactor_program.proofs.NamePlaces.{distinct_none}
use Rattle.expand_bodies.specs.Expanded.{AreScratchNames}

pub no_scratch : (states : List (List ℕ)) → AreScratchNames states []
no_scratch states = record { unused = All-nil (λ name. place_of states name ≡ None); distinct = distinct_none }

pub one_scratch_more : (states names : List (List ℕ)) (name : List ℕ) → AreScratchNames states names → place_of states name ≡ None
    → list_any (bytes_eq name) names ≡ false → AreScratchNames states (names ++ name ∷ [])
one_scratch_more states names name are unused new =
    record { unused = All-push (λ name. place_of states name ≡ None) names name are.unused unused; distinct = IsDistinct-push nat_list_eq_equiv names name are.distinct new }
