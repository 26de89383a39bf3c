-- What a federate and the coordinator do by themselves changes them.
use Rattle.std.proofs.Common.{◌≡◌, ◌≢◌, Bool, true, false, List, [], ◌∷◌, ◌++◌, length, Option, None, Some, if◌then◌else◌, refl, sym, ap, ◌∙◌, arith, length-append}
use Rattle.tag.specs.LogicalTime.{LogicalTime, is_reached}
use Rattle.tag.proofs.Order.{same_itself}
use Rattle.network.specs.Undone.{first_tag}
use Rattle.signal.specs.declared.signal.Signal.TheVariants.{Net}
use Rattle.protocol.specs.Outcome.{Nothing, Done, with_made}
use Rattle.protocol.specs.Federate.{Federate, Stepped, is_told, next_event, advance_to, row_of_turn, turn_at}
use Rattle.node.specs.Core.{Made}
use Rattle.node_cores.specs.FederateCore.{FederateNode, made_by, network_at, federate_core}
use Rattle.node_cores.specs.CoordinatorCore.{coordinator_core}
use Rattle.node_laws.specs.Nothing.{ActsByChanging}

-- where there is nothing to do, nothing is done
nothing_done : {A : Type 0} (made : A) → Nothing ≡ Done made → ⊥
nothing_done made is = cc

-- where a federate's node is as before after this step, so is the federate
federate_stays : (v : FederateNode) (step : Stepped) (made : Made FederateNode) → Done (made_by v step) ≡ Done made → made.after ≡ v →
    step.after ≡ v.federate
federate_stays v step made is same =
    let parts : made_by v step ≡ made = cc in
    ap (λ (m : Made FederateNode). m.after.federate) parts ∙ ap (λ (n : FederateNode). n.federate) same

-- what is announced wasn't announced before
abbrev announcement : Federate → Stepped
announcement f = record { after = record f { announced = Some (next_event f) }; sent = Net (next_event f) ∷ [] }

announce_if : (v : FederateNode) (b : Bool) → is_told v.federate.announced (next_event v.federate) ≡ b → (made : Made FederateNode) →
    with_made (made_by v) (if b then Nothing else Done (announcement v.federate)) ≡ Done made → made.after ≢ v
announce_if v true told made is same = nothing_done made is
announce_if v false told made is same =
    let next : LogicalTime = next_event v.federate in
    let announced : Some next ≡ v.federate.announced = ap (λ (f : Federate). f.announced) (federate_stays v (announcement v.federate) made is same) in
    let clash : true ≡ false = sym (same_itself next) ∙ ap (λ o. is_told o next) announced ∙ told in
    cc

-- a turn adds a row
longer : {X : Type 0} (xs : List X) (x : X) → (xs ++ x ∷ []) ≢ xs
longer xs x same =
    let more = length-append xs (x ∷ []) in
    let still : length (xs ++ x ∷ []) ≡ length xs = ap length same in
    omega arith

advance_if : (v : FederateNode) (tag : LogicalTime) (b : Bool) (made : Made FederateNode) →
    with_made (made_by v) (if b then Done (turn_at (network_at v) v.number v.federate tag) else Nothing) ≡ Done made → made.after ≢ v
advance_if v tag true made is same =
    longer v.federate.rows (row_of_turn (network_at v) v.number v.federate tag)
    (ap (λ (f : Federate). f.rows) (federate_stays v (turn_at (network_at v) v.number v.federate tag) made is same))
advance_if v tag false made is same = nothing_done made is

advances_by_rows : (v : FederateNode) (o : Option LogicalTime) (made : Made FederateNode) →
    with_made (made_by v) (advance_to (network_at v) v.number v.federate o) ≡ Done made → made.after ≢ v
advances_by_rows v None made is = absurd (nothing_done made is)
advances_by_rows v (Some tag) made is = advance_if v tag (is_reached v.federate.granted tag) made is

pub federate_acts : ActsByChanging federate_core
federate_acts = record {
  announce = λ v made is. announce_if v (is_told v.federate.announced (next_event v.federate)) refl made is;
  advance = λ v made is. advances_by_rows v (first_tag v.federate.undone) made is;
}

pub coordinator_acts : ActsByChanging coordinator_core
coordinator_acts = record { announce = λ v made is. absurd (nothing_done made is); advance = λ v made is. absurd (nothing_done made is) }
