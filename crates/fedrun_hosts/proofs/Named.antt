-- A node's log has the report's name, or gets it.
use Rattle.std.proofs.Common.{◌≡◌, ◌⊎◌, ◌↔◌, ◌∙◌, ℕ, Bool, true, false, IsTrue, List, length, Option, None, Some, IsSome, IfSome, Result, Ok, IfOk, OnOk, inl, inr, refl, sym, ap, subst}
use Rattle.node.specs.declared.event.Event.{Event}
use Rattle.files_saving.specs.Contents.{Contents, KnownOf, SameBut}
use Rattle.files_saving.specs.Saved.{IsRenamed, temporary_name}
use Rattle.files_logs.specs.declared.log.Log.{Log}
use Rattle.files_logs.specs.declared.log_head.LogHead.{LogHead}
use Rattle.files_logs.specs.Reading.{IsLogRead, IsWholeLog}
use Rattle.files_logs.proofs.Going.{ends}
use Rattle.files_logs.proofs.OneLog.{one_log}
use Rattle.fedrun_logs.specs.declared.opening.OpenedLog.{OpenedLog}
use Rattle.fedrun_logs.specs.Files.{LogFile}
use Rattle.fedrun_hosts.specs.EndedLogs.{IsEndedLog, IsSpare, HadName, HadEnd, GetsEnd, EndsLog, gets_both, OpensLog, with_end, EndsFile, EndsOpened}

-- an outcome that is Ok
pub if_ok_at : {T E : Type 0} (P : T → Type 0) (r : Result T E) (x : T) → r ≡ Ok x → IfOk r P → P x
if_ok_at P r x is holds = subst (λ q. IfOk q P) is holds

pub on_ok_at : {T E : Type 0} {P : Type 0} (r : Result T E) (x : T) → r ≡ Ok x → OnOk r P → P
on_ok_at {T} {E} {P} r x is holds = subst (λ (q : Result T E). OnOk q P) is holds

-- what is true isn't false
pub not_both : {b : Bool} → b ≡ true → b ≡ false → ⊥
not_both is isnt = let both : false ≡ true = sym isnt ∙ is in cc

same_inside : {A : Type 0} {x y : A} → Some x ≡ Some y → x ≡ y
same_inside e = cc

spare_inside : {P : Type 0} {before after : Contents} → P ⊎ (Some after ≡ Some before) → P ⊎ (after ≡ before)
spare_inside (inl spare) = inl spare
spare_inside (inr same) = inr (same_inside same)

module _ (temporary name : List ℕ) (is_temporary : temporary ≡ temporary_name name) (bytes beside : List ℕ) where
  -- it has it already, and the file beside it may be removed
  had_name : (before after : Option Contents) → IfSome before (λ files. IsTrue true ↔ IsSome (files name)) → KnownOf before after (SameBut temporary) → IsSpare beside bytes ⊎ (after ≡ before) →
      KnownOf before after (HadName name bytes beside)
  had_name None after there same spare = _
  had_name (Some before) None there same spare = absurd same
  had_name (Some before) (Some after) there same spare = record {
    was_there = there.0 refl;
    others = subst (λ t. SameBut t before after) is_temporary same;
    spare = spare_inside spare;
  }

  pub had_name_looked : (before looked after : Option Contents) → looked ≡ before → IfSome before (λ files. IsTrue true ↔ IsSome (files name)) → KnownOf looked after (SameBut temporary) →
      IsSpare beside bytes ⊎ (after ≡ looked) → KnownOf before after (HadName name bytes beside)
  had_name_looked before looked after looks there same spare =
      had_name before after there (subst (λ b. KnownOf b after (SameBut temporary)) looks same) (subst (λ b. IsSpare beside bytes ⊎ (after ≡ b)) looks spare)

-- a node whose log had its end, and the name: what was found under it, and what was beside it
pub had_end : (known : Bool) (Holds Later : List ℕ → List ℕ → Type 0) (head : LogHead) (temporary name : List ℕ) (beside : List ℕ) (before looked after : Option Contents) (log : Log) →
    temporary ≡ temporary_name name → ((of bytes : List ℕ) → Later of bytes → Holds of bytes) → (IsTrue known → Holds temporary beside) → looked ≡ before →
    IfSome before (λ files. IsTrue true ↔ IsSome (files name)) → KnownOf looked after (SameBut temporary) →
    (bytes : List ℕ) × (IsTrue known → Later name bytes) × IsEndedLog head bytes log × (IsSpare beside bytes ⊎ (after ≡ looked)) → HadEnd known Holds head name before after log
had_end known Holds Later head temporary name beside before looked after log is_temporary same held_beside looks there others (bytes, held, is_ended, spare) = record {
  bytes = bytes;
  held = λ k. same name bytes (held k);
  is_ended = is_ended;
  beside = beside;
  held_beside = λ k. subst (λ (t : List ℕ). Holds t beside) is_temporary (held_beside k);
  named = had_name_looked temporary name is_temporary bytes beside before looked after looks there others spare;
}

-- all of these bytes are a log that says this, and this is read of them
one_journal : (head : LogHead) (bytes : List ℕ) (sum : ℕ) (journal : List Event) (told closed : Bool) (log : Log) → IsWholeLog head bytes sum journal told closed →
    IsLogRead head.files (Some head.who) head.rules bytes log → log.journal ≡ journal
one_journal head bytes sum journal told closed log whole read =
    let other : Log = record { who = head.who; journal = journal; is_told = told; is_ended = closed; whole = length bytes; sum = sum } in
    let other_read : IsLogRead head.files (Some head.who) head.rules bytes other = record { is_asked = refl; is_read = whole } in
    ap (λ (l : Log). l.journal) (one_log head.files (Some head.who) head.rules bytes log other read other_read)

-- its end behind it, unless it is there
closed_whole : (head : LogHead) (kept : List ℕ) (sum : ℕ) (journal : List Event) (told closed : Bool) → IsWholeLog head kept sum journal told closed →
    IsWholeLog head (with_end closed sum kept) sum journal told true
closed_whole head kept sum journal told true whole = whole
closed_whole head kept sum journal told false whole = ends head kept sum journal told whole

module _ {V : Type 0} (known : Bool) (Holds : List ℕ → List ℕ → Type 0) (synced : V → List ℕ) (head : LogHead) (name : List ℕ) (opened : OpenedLog V) where
  -- where it said that the run is finished, it says what it said
  as_found : (file : LogFile V) (bytes : List ℕ) (log : Log) → OpensLog known Holds synced head name opened → (opened.is_told ≡ true → file ≡ opened.file) →
      (IsTrue known → bytes ≡ with_end opened.is_ended file.sum (synced file.log.device)) → IsEndedLog head bytes log → IsTrue known → opened.is_told ≡ true → log.journal ≡ opened.journal
  as_found file bytes log opens as_opened are is_ended k told =
      let kept = synced opened.file.log.device in
      let all : bytes ≡ with_end opened.is_ended opened.file.sum kept =
      are k ∙ ap (λ (f : LogFile V). with_end opened.is_ended f.sum (synced f.log.device)) (as_opened told) in
      let whole = closed_whole head kept opened.file.sum opened.journal opened.is_told opened.is_ended (opens.whole k) in
      one_journal head bytes opened.file.sum opened.journal opened.is_told true log
      (subst (λ (b : List ℕ). IsWholeLog head b opened.file.sum opened.journal opened.is_told true) (sym all) whole) is_ended.is_read

  -- a log that was opened, and has its end now
  pub ends_opened : (before begun after : Option Contents) (log : Log) → OpensLog known Holds synced head name opened × (begun ≡ before) → EndsOpened known synced head name opened begun after log →
      EndsLog known Holds head name before after log
  ends_opened before begun after log (opens, same) ended = gets_both (of_file ended.ends)
    where
      of_file : EndsFile known head opened.is_ended ended.file.sum (synced ended.file.log.device) log → GetsEnd known Holds head name before after log
      of_file (bytes, are, is_ended) = record {
        beside = opens.bytes;
        held_beside = opens.held;
        journal = opened.journal;
        told = opened.is_told;
        closed = opened.is_ended;
        begun = opens.begun;
        bytes = bytes;
        is_ended = is_ended;
        as_found = as_found ended.file bytes log opens ended.as_opened are is_ended;
        named = subst (λ (b : Option Contents). KnownOf b after (IsRenamed (temporary_name name) name)) same ended.named;
      }
