-- Rows that are written some turns at a time are the rows of all turns.
use Rattle.std.proofs.Common.{◌≡◌, ℕ, ◌+◌, ◌<◌, Result, Ok, Err, IfOk, OnErr, List, [], ◌++◌, length, drop, append_assoc, append-nil, Option, refl, sym, ap, ◌∙◌, arith}
use Rattle.std.specs.Io.KnownBytes.{Appends, Keeps}
use Rattle.std.proofs.KnownBytes.{Appends-trans, Appends-kept}
use Rattle.std.proofs.lemmas.Grind.{flat_map-append}
use Rattle.std.proofs.lemmas.List.{drop_at, length-append}
use Rattle.network.specs.Undivided.{Row, whole}
use Rattle.network_laws.proofs.Prefix.{whole_begins}
use Rattle.plan.specs.declared.draft.Federate.{Federate}
use Rattle.plan.specs.declared.draft.Draft.{Draft}
use Rattle.plan.specs.declared.input.Input.{Input}
use Rattle.reactor_program.specs.Behaviour.{Behaviour}
use Rattle.whole.specs.Progress.{Progress, network_in, all_rows_in, rows_in, later_by}
use Rattle.files_text.specs.declared.row_format.RowFormat.{RowFormat}
use Rattle.files_text.specs.Formats.{heading, formatted_row, formatted_rows}
use Rattle.fedrun_whole.specs.PrintedTurns.{PrintsFirstRows, IsPrinted, let_go_after}

-- some turns are made, whatever the answer
pub some_made : {E : Type 0} (answer : Result ℕ E) (most : ℕ) (p q : Progress) → IfOk answer (λ made. q ≡ later_by made p)
    → OnErr answer ((made : ℕ) × (made < most) × (q ≡ later_by made p)) → (made : ℕ) × (q ≡ later_by made p)
some_made (Ok made) most p q ok err = (made, ok)
some_made (Err e) most p q ok err = (err.0, err.2)

-- the rows of further turns are written behind those of all turns before
pub printed_further :
    (format : RowFormat) (p q last : Progress) (made : ℕ) (federates : List Federate) (rows : List Row) (before mid after : Option (List ℕ)) →
    IsPrinted p format before mid → q ≡ later_by made p → rows ≡ rows_in q → length rows + q.discarded ≡ q.turns → federates ≡ p.draft.federates →
    Appends mid after (formatted_rows format federates rows) → last ≡ let_go_after made p → IsPrinted last format before after
printed_further format p q last made federates rows before mid after so_far is_later are counted of_draft written is_last =
    let old : List Row = all_rows_in p in
    let new : List Row = whole (network_in p) (p.turns + made) in
    let begins = whole_begins (network_in p) p.turns (p.turns + made) (omega arith) in
    let further : List Row = begins.0 in
    let shown : rows ≡ further =
    are ∙ ap (λ k. rows_in k) is_later ∙ ap (λ k. drop k new) so_far.discard ∙ ap (λ rs. drop p.turns rs) begins.1 ∙
    drop_at old further p.turns so_far.one_for_each_turn in
    let counts : length rows + p.discarded ≡ p.turns + made = rw is_later at counted in
    let text : formatted_rows format p.draft.federates new ≡ formatted_rows format p.draft.federates old ++ formatted_rows format federates rows =
    rw (begins.1, of_draft, shown) (flat_map-append (formatted_row format p.draft.federates) old further) in
    let headed : heading format ++ formatted_rows format p.draft.federates new ≡ (heading format ++ formatted_rows format p.draft.federates old) ++ formatted_rows format federates rows =
    ap (λ t. heading format ++ t) text ∙ sym (append_assoc (heading format) (formatted_rows format p.draft.federates old) (formatted_rows format federates rows)) in
    let as_many : length new ≡ p.turns + made =
    ap length begins.1 ∙ length-append old further ∙ ap (λ k. k + length further) so_far.one_for_each_turn ∙
    (let same : length rows ≡ length further = ap length shown in omega (arith, counts, same, so_far.discard)) in
    rw is_last (record {
      discard = refl;
      one_for_each_turn = as_many;
      printed = rw headed (Appends-trans before mid after _ _ so_far.printed written);
    })

-- before the first turn the heading is written
pub printed_none : (format : RowFormat) (p : Progress) (before after : Option (List ℕ)) → p.turns ≡ 0 → p.discarded ≡ 0 → Appends before after (heading format)
    → IsPrinted p format before after
printed_none format p before after none_made none_discarded headed =
    let no_rows : all_rows_in p ≡ [] = ap (λ k. whole (network_in p) k) none_made in
    record {
      discard = none_discarded ∙ sym none_made;
      one_for_each_turn = ap length no_rows ∙ sym none_made;
      printed = rw (no_rows, append-nil (heading format)) headed;
    }

-- and no more is written, where no turn is made
pub first_none : (format : RowFormat) (d : Draft) (programs : List Behaviour) (inputs : List Input) (turns : ℕ) (before after : Option (List ℕ)) → Appends before after (heading format)
    → PrintsFirstRows d programs inputs turns format before after
first_none format d programs inputs turns before after headed =
    record { made = 0; most = omega arith; printed = rw (append-nil (heading format)) headed }

-- the rows of the first turns stay written where a writer keeps its bytes
pub first_rows_kept :
    (format : RowFormat) (d : Draft) (programs : List Behaviour) (inputs : List Input) (turns : ℕ) (before mid after : Option (List ℕ)) →
    PrintsFirstRows d programs inputs turns format before mid → Keeps mid after → PrintsFirstRows d programs inputs turns format before after
first_rows_kept format d programs inputs turns before mid after first kept =
    record {
      made = first.made;
      most = first.most;
      printed = Appends-kept before mid after _ first.printed kept;
    }

-- after some of the turns that are asked for, all printed under the heading
pub record Going (format : RowFormat) (start p : Progress) (turns left : ℕ) (headed after : Option (List ℕ)) : Type 0 where
  pub done : ℕ
  pub turned : p ≡ let_go_after done start
  pub still : done + left ≡ turns
  pub printed : (before : Option (List ℕ)) → Appends before headed (heading format) → IsPrinted p format before after

pub going_on :
    (format : RowFormat) (start p next : Progress) (turns left made : ℕ) (headed mid after : Option (List ℕ)) → Going format start p turns left headed mid →
    next ≡ let_go_after made p → ((bytes : Option (List ℕ)) → IsPrinted p format bytes mid → IsPrinted next format bytes after) →
    (rest : ℕ) → rest + made ≡ left → Going format start next turns rest headed after
going_on format start p next turns left made headed mid after so_far is_next keeps rest all =
    let sums : start.turns + so_far.done + made ≡ start.turns + (so_far.done + made) = omega arith in
    let gone_on : let_go_after made (let_go_after so_far.done start) ≡ let_go_after (so_far.done + made) start = rw sums refl in
    record {
      done = so_far.done + made;
      turned = is_next ∙ ap (λ k. let_go_after made k) so_far.turned ∙ gone_on;
      still = omega (arith, so_far.still, all);
      printed = λ before under. keeps before (so_far.printed before under);
    }
