use Rattle.std.proofs.Common.{◌≤◌, length, refl, sym, subst, arith}
use Rattle.std.proofs.lemmas.Result.{err_from_is_err_and}
use Rattle.reactor_program.specs.declared.limits.TheConstants.{MOST_LINES}
use Rattle.reactor_program.specs.declared.reaction_draft.ReactionDraft.{ReactionDraft}
use Rattle.reactor_program.specs.Spelled.{SpellsReaction}
use Rattle.std.proofs.lemmas.Option.{slice_get_read}
use Rattle.reactor_program.proofs.Zips.{all_zip_grow}
use Rattle.reactor_program.proofs.LineFaults.{reaction_fault}
use Rattle.reactor_program.proofs.parse.parse_reactions.Goals as goal

pub returns-in_err-reaction-clause-refused : goal.returns-in_err-reaction-clause-refused
returns-in_err-reaction-clause-refused c =
    let p = err_from_is_err_and c.from_residual.result c.from_residual.ensures.1 in
    let here = slice_get_read c.args.drafts.now (length c.args.drafts.now) c.loop-place.place c.index-drafts-place.result refl c.loop-place-test.true c.index-drafts-place.is in
    rw (p.1, p.2) (reaction_fault c.args.slots.now c.args.states.now c.args.drafts.now c.loop-place.place c.index-drafts-place.result here c.in_err-reaction.field-0.0 c.in_err-reaction.ensures.refused)

pub overflow_add-place : goal.overflow_add-place
overflow_add-place c = omega arith

pub parse_reaction-requires-clause-limits : goal.parse_reaction-requires-clause-limits
parse_reaction-requires-clause-limits c = c.requires.limits

pub parse_reaction-requires-clause-few_lines : goal.parse_reaction-requires-clause-few_lines
parse_reaction-requires-clause-few_lines c =
    let P : ReactionDraft → Type 0 = λ d. length d.body ≤ MOST_LINES in
    subst P (sym c.index-drafts-place.is) (c.requires.few_lines c.loop-place.place c.index-drafts-place.result c.loop-place-test.true)

pub loop-place-preserved : goal.loop-place-preserved
loop-place-preserved c =
    rw c.in_ok-push.ensures.items (all_zip_grow (SpellsReaction c.args.slots.now c.args.states.now) c.loop-place.reactions.items c.args.drafts.now c.loop-place.place c.in_ok-reaction.reaction c.index-drafts-place.result c.loop-place-test.true c.index-drafts-place.is c.loop-place.invariant c.in_ok-reaction.ensures.spelled)
