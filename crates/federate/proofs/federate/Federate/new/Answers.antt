use Rattle.plan.specs.Federation.{stop_of}
use Rattle.std.proofs.Common.{refl, ◌≡◌, ◌<◌, ◌∙◌, sym, ap, subst, Some, length, slice_get, arith}
use Rattle.reactor_program.specs.Behaviour.{Behaviour, IsWellFormed}
use Rattle.plan_network.specs.Network.{network_of}
use Rattle.std.proofs.lemmas.Option.{slice_get_read}
use Rattle.reactor_program.proofs.Zips.{all_zip_lengths}
use Rattle.plan_network.proofs.LawfulNetwork.{gives_lawful}
use Rattle.plan.specs.declared.draft.Federate as declared
use Rattle.protocol.specs.Federate as protocol
use Rattle.protocol.specs.KeptAlone.{IsFederate}
use Rattle.protocol_laws.proofs.FederateAlone.{initial_is_federate}
use Rattle.node_cores.specs.FederateCore.{FederateNode}
use Rattle.reactor_agenda.specs.Agenda.{Agenda, own_undone}
use Rattle.federate.proofs.Initial.{opened_is}
use Rattle.federate.proofs.federate.Federate.new.Goals as goal

pub bounds-as_slice-number : goal.bounds-as_slice-number
bounds-as_slice-number c =
    let same = all_zip_lengths (λ (f : declared.Federate) (b : Behaviour). (f.slots ≡ b.slots) × IsWellFormed b) c.args.plan.now.federates c.args.programs.now c.requires.programs in
    rw c.as_slice.ensures (omega (arith, same, c.requires.there))

pub invariant_of-result-2 : goal.invariant_of-result-2
invariant_of-result-2 c =
    let d = c.args.plan.now in
    let programs = c.args.programs.now in
    let same = all_zip_lengths (λ (f : declared.Federate) (b : Behaviour). (f.slots ≡ b.slots) × IsWellFormed b) d.federates programs c.requires.programs in
    let within : c.args.number < length programs = omega (arith, same, c.requires.there) in
    let program : slice_get programs c.args.number ≡ Some c.index-as_slice-number.result =
    slice_get_read programs (length programs) c.args.number c.index-as_slice-number.result refl within (rw c.as_slice.ensures at c.index-as_slice-number.is) in
    let federate : slice_get d.federates c.args.number ≡ Some c.index-federates-number.result =
    slice_get_read d.federates (length d.federates) c.args.number c.index-federates-number.result refl c.requires.there (rw c.federates.ensures at c.index-federates-number.is) in
    let undone : c.in_ok-agenda.agenda.undone ≡ own_undone (stop_of d) c.index-federates-number.result.slots =
    rw (c.in_ok-agenda.ensures, c.stop_tag.ensures, ← c.index-federates-number.is) refl in
    let opened = opened_is d programs c.args.inputs.now c.args.number c.index-as_slice-number.result c.index-federates-number.result c.in_ok-new.field-0 _ c.put_recorded.new.agenda
    c.in_ok-agenda.agenda.undone c.new-3.result program federate c.in_ok-new.ensures c.agenda.view_is c.in_ok-put_recorded.ensures.pending
    undone c.new-3.ensures in
    record {
      legal = c.invariant.ensures;
      programs_fit = c.requires.programs;
      inputs_fit = c.requires.inputs;
      there = c.requires.there;
      program_is = program ∙ ap (λ r. Some r.behaviour) (sym c.in_ok-new.ensures);
      stop_is = ap (λ (a : Agenda). a.stop) c.agenda.view_is ∙ c.in_ok-put_recorded.ensures.stop ∙ ap (λ (a : Agenda). a.stop) c.in_ok-agenda.ensures ∙ c.stop_tag.ensures;
      outlets_are = c.in_ok-outlets_of.ensures;
      alone = subst (IsFederate (network_of d programs c.args.inputs.now) c.args.number) (sym opened)
          (initial_is_federate (network_of d programs c.args.inputs.now) c.args.number (gives_lawful d programs c.args.inputs.now c.invariant.ensures c.requires.programs c.requires.inputs));
    }

pub returns : goal.returns
returns c =
    let d = c.args.plan.now in
    let programs = c.args.programs.now in
    let same = all_zip_lengths (λ (f : declared.Federate) (b : Behaviour). (f.slots ≡ b.slots) × IsWellFormed b) d.federates programs c.requires.programs in
    let within : c.args.number < length programs = omega (arith, same, c.requires.there) in
    let program : slice_get programs c.args.number ≡ Some c.index-as_slice-number.result =
    slice_get_read programs (length programs) c.args.number c.index-as_slice-number.result refl within (rw c.as_slice.ensures at c.index-as_slice-number.is) in
    let federate : slice_get d.federates c.args.number ≡ Some c.index-federates-number.result =
    slice_get_read d.federates (length d.federates) c.args.number c.index-federates-number.result refl c.requires.there (rw c.federates.ensures at c.index-federates-number.is) in
    let undone : c.in_ok-agenda.agenda.undone ≡ own_undone (stop_of d) c.index-federates-number.result.slots =
    rw (c.in_ok-agenda.ensures, c.stop_tag.ensures, ← c.index-federates-number.is) refl in
    let opened = opened_is d programs c.args.inputs.now c.args.number c.index-as_slice-number.result c.index-federates-number.result c.in_ok-new.field-0 _ c.put_recorded.new.agenda
    c.in_ok-agenda.agenda.undone c.new-3.result program federate c.in_ok-new.ensures c.agenda.view_is c.in_ok-put_recorded.ensures.pending
    undone c.new-3.ensures in
    let node_of : protocol.Federate → FederateNode = λ f. record { draft = d; programs = programs; inputs = c.args.inputs.now; number = c.args.number; federate = f } in
    ap node_of opened
