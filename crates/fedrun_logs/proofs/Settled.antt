-- A log in a file that is settled.
use Rattle.std.proofs.Common.{◌≡◌, ℕ, ◌≤◌, false, List, [], length, take, Some, Result, Ok, Err, IfOk, OnOk, refl, sym, ap, subst, ◌∙◌}
use Rattle.files_logs.specs.declared.log_head.LogHead.{LogHead}
use Rattle.files_logs.specs.declared.log.Log.{Log}
use Rattle.files_logs.specs.Log.{head_bytes, head_sum, IsHead}
use Rattle.files_logs.specs.Reading.{IsRead, IsWholeLog, IsLogRead, head_of}
use Rattle.files_logs.proofs.Going.{within, settled, begins}
use Rattle.fedrun_logs.specs.Files.{IsBegun, goes_on}

-- what is found is this
pub found_is : {T E : Type 0} (result : Result T E) (x : T) (P : T → Type 0) → P x → IfOk result (λ found. found ≡ x) → IfOk result P
found_is (Ok y) x P p is = subst P (sym is) p
found_is (Err e) x P p is = tt

-- two facts of what is found
pub both : {T E : Type 0} (result : Result T E) (P R : T → Type 0) (Q : Type 0) → IfOk result P → OnOk result Q → ((x : T) → P x → Q → R x) → IfOk result R
both (Ok x) P R Q p q f = f x p q
both (Err e) P R Q p q f = tt

-- three
pub three : {T E : Type 0} (result : Result T E) (P R : T → Type 0) (Q S : Type 0) → IfOk result P → OnOk result Q → OnOk result S → ((x : T) → P x → Q → S → R x) → IfOk result R
three (Ok x) P R Q S p q s f = f x p q s
three (Err e) P R Q S p q s f = tt

-- what is read where this node's log is asked for
pub read_so : (head : LogHead) (bytes : List ℕ) (log : Log) → IsLogRead head.files (Some head.who) head.rules bytes log → IsRead head bytes log
read_so head bytes log read = subst (λ (who : ℕ). IsRead (head_of head.files head.rules who) bytes log) read.is_asked read.is_read

pub read_begun : (head : LogHead) (bytes : List ℕ) (log : Log) → IsLogRead head.files (Some head.who) head.rules bytes log → IsBegun head bytes log.journal log.is_told log.is_ended
read_begun head bytes log read = goes_on log read refl refl refl

-- its whole bytes are no more than there are
pub fits : (head : LogHead) (bytes seen : List ℕ) (log : Log) → IsLogRead head.files (Some head.who) head.rules bytes log → bytes ≡ seen → log.whole ≤ length seen
fits head bytes seen log read are = subst (λ (b : List ℕ). log.whole ≤ length b) are (within head bytes log (read_so head bytes log read))

says : LogHead → List ℕ → Log → Type 0
says head bytes log = IsWholeLog head bytes log.sum log.journal log.is_told log.is_ended

-- what the disk keeps of a log that was begun before
pub went_on : (head : LogHead) (bytes seen synced : List ℕ) (log found : Log) → IsLogRead head.files (Some head.who) head.rules bytes log → bytes ≡ seen
    → synced ≡ take log.whole seen → found ≡ log → IsWholeLog head synced found.sum found.journal found.is_told found.is_ended
unfolding says
went_on head bytes seen synced log found read are kept same =
    let cut : synced ≡ take log.whole bytes = kept ∙ ap (λ (b : List ℕ). take log.whole b) (sym are) in
    let whole : says head (take log.whole bytes) log = settled head bytes log (read_so head bytes log read) in
    subst (λ (l : Log). says head synced l) (sym same) (subst (λ (b : List ℕ). says head b log) (sym cut) whole)

-- or of one that begins
pub begun : (head : LogHead) (synced : List ℕ) (found : Log) → IsHead head → synced ≡ head_bytes head
    → found ≡ record { who = head.who; journal = []; is_told = false; is_ended = false; whole = length (head_bytes head); sum = head_sum head }
    → IsWholeLog head synced found.sum found.journal found.is_told found.is_ended
unfolding says
begun head synced found is_head kept is =
    let whole : says head (head_bytes head) (record { who = head.who; journal = []; is_told = false; is_ended = false; whole = length (head_bytes head); sum = head_sum head }) = begins head is_head in
    subst (λ (l : Log). says head synced l) (sym is) (subst (λ (b : List ℕ). says head b (record { who = head.who; journal = []; is_told = false; is_ended = false; whole = length (head_bytes head); sum = head_sum head })) (sym kept) whole)
