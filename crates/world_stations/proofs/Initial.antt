-- Stations as they are made, one after the other.
use Rattle.std.proofs.Common.{◌≡◌, ℕ, ◌+◌, List, [], ◌∷◌, ◌++◌, map, sym, ap, ◌∙◌, arith}
use Rattle.std.specs.List.{range_with_len}
use Rattle.std.proofs.lemmas.List.{map-append}
use Rattle.std.proofs.lemmas.List.FromFn.{map-range_with_len_more}
use Rattle.link.specs.Image.{Image, EndView}
use Rattle.world_stations.specs.Initial.{new_end}

-- the ends of one federate more
pub ends_more : (before after : List EndView) (e : EndView) (count : ℕ) → after ≡ before ++ e ∷ [] → e.image ≡ new_end count →
    map (λ (x : EndView). x.image) before ≡ map new_end (range_with_len 0 count) → map (λ (x : EndView). x.image) after ≡ map new_end (range_with_len 0 (count + 1))
ends_more before after e count is new so_far =
    ap (map (λ (x : EndView). x.image)) is ∙
    (map-append (λ (x : EndView). x.image) before (e ∷ []) ∙
    (ap (λ (images : List Image). images ++ e.image ∷ []) so_far ∙
    (ap (λ (image : Image). map new_end (range_with_len 0 count) ++ image ∷ []) new ∙ sym (map-range_with_len_more new_end 0 count count (omega arith)))))
