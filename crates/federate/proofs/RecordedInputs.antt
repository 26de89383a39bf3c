-- Recorded inputs, one after the other.
use Rattle.std.proofs.Common.{◌≡◌, ℕ, ◌+◌, ◌<◌, List, [], ◌∷◌, ◌++◌, map, filter, length, get_or, take, sym, ap, ◌∙◌}
use Rattle.std.specs.List.{filter_map}
use Rattle.std.proofs.lemmas.List.{take_more, map-append}
use Rattle.std.proofs.lemmas.List.Elements.{filter-append, filter_map-append}
use Rattle.tag.specs.LogicalTime.{is_at_most}
use Rattle.network.specs.Event.{Event}
use Rattle.network.specs.Undone.{PendingEvent, put_all, pending_event_of}
use Rattle.plan.specs.declared.draft.Draft.{Draft}
use Rattle.plan.specs.declared.input.Input.{Input}
use Rattle.plan.specs.Federation.{stop_of}
use Rattle.plan.specs.External.{input_event, input_events, input_events_to, is_for}
use Rattle.reactor_agenda.proofs.Putting.{put_all-append}

-- inputs, and then others
joined : (d : Draft) (xs ys : List Input) (j : ℕ) → input_events_to d (xs ++ ys) j ≡ input_events_to d xs j ++ input_events_to d ys j
joined d xs ys j =
    let up_to = λ (e : Event). is_at_most e.tag (stop_of d) in
    ap (λ es. filter (is_for j) (filter up_to es)) (filter_map-append (input_event d.federates) xs ys)
    ∙ ap (filter (is_for j)) (filter-append up_to (filter_map (input_event d.federates) xs) (filter_map (input_event d.federates) ys))
    ∙ filter-append (is_for j) (input_events d xs) (input_events d ys)

-- one input more is put over those before it
pub put_more : (d : Draft) (inputs : List Input) (i : ℕ) (x : Input) (j : ℕ) (u : List PendingEvent) → i < length inputs → x ≡ get_or inputs i x →
    put_all (map pending_event_of (input_events_to d (take (i + 1) inputs) j)) u ≡
    put_all (map pending_event_of (input_events_to d (x ∷ []) j)) (put_all (map pending_event_of (input_events_to d (take i inputs) j)) u)
put_more d inputs i x j u h is =
    let cut : take (i + 1) inputs ≡ take i inputs ++ x ∷ [] = take_more inputs i x h ∙ ap (λ y. take i inputs ++ y ∷ []) (sym is) in
    ap (λ xs. put_all (map pending_event_of (input_events_to d xs j)) u) cut
    ∙ ap (λ es. put_all (map pending_event_of es) u) (joined d (take i inputs) (x ∷ []) j)
    ∙ ap (λ es. put_all es u) (map-append pending_event_of (input_events_to d (take i inputs) j) (input_events_to d (x ∷ []) j))
    ∙ put_all-append (map pending_event_of (input_events_to d (take i inputs) j)) (map pending_event_of (input_events_to d (x ∷ []) j)) u
