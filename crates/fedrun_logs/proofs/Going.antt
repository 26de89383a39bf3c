-- A log whose blocks come one after the other.
use Rattle.std.proofs.Common.{◌≡◌, ℕ, Bool, true, false, ◌||◌, List, [], ◌++◌, length, refl, sym, ap, subst, ◌∙◌, append_assoc, append-nil}
use Rattle.std.specs.List.{AllByRecursion}
use Rattle.std.proofs.lemmas.List.{nil_from_length}
use Rattle.std.proofs.Math.Bool.{or_assoc}
use Rattle.node.specs.declared.event.Event.{Event}
use Rattle.files_logs.specs.declared.log_head.LogHead.{LogHead}
use Rattle.files_logs.specs.Blocks.{IsBlock, blocks_bytes, sum_behind}
use Rattle.files_logs.specs.Log.{end_bytes}
use Rattle.files_logs.specs.Reading.{IsWholeLog}
use Rattle.files_logs.specs.Writing.{blocks_for}
use Rattle.files_logs.proofs.Going as logs
use Rattle.fedrun_logs.specs.Files.{LogFile, GoesOn}

or_false : (b : Bool) → (b || false) ≡ b
or_false true = refl
or_false false = refl

-- equal parts
same : (head : LogHead) (bytes b : List ℕ) (sum s : ℕ) (journal j : List Event) (told t : Bool) → bytes ≡ b → sum ≡ s → journal ≡ j → told ≡ t
    → IsWholeLog head bytes sum journal told false → IsWholeLog head b s j t false
same head bytes b sum s journal j told t eb es ej et w =
    subst (λ (x : Bool). IsWholeLog head b s j x false) et
    (subst (λ (x : List Event). IsWholeLog head b s x told false) ej
    (subst (λ (x : ℕ). IsWholeLog head b x journal told false) es (subst (λ (x : List ℕ). IsWholeLog head x sum journal told false) eb w)))

-- a block
pub block_kept : (head : LogHead) (old new : List ℕ) (sum s : ℕ) (journal events : List Event) (told tells : Bool) → new ≡ old ++ blocks_bytes sum (blocks_for events tells)
    → s ≡ sum_behind sum (blocks_for events tells) → AllByRecursion IsBlock (blocks_for events tells) → IsWholeLog head old sum journal told false
    → IsWholeLog head new s (journal ++ events) (told || tells) false
block_kept head old new sum s journal events told tells kept sum_is are w =
    same head (old ++ blocks_bytes sum (blocks_for events tells)) new (sum_behind sum (blocks_for events tells)) s (journal ++ events) (journal ++ events) (told || tells) (told || tells) (sym kept) (sym sum_is) refl refl
    (logs.goes_on head old sum journal told events tells w are)

module _ {D : Type 0} (known : Bool) (synced : D → List ℕ) where
  -- nothing
  pub nothing : (file : LogFile D) → GoesOn known synced file file [] false
  nothing file k head journal told w =
      same head (synced file.log.device) (synced file.log.device) file.sum file.sum journal (journal ++ []) told (told || false) refl refl (sym (append-nil journal)) (sym (or_false told)) w

  pub no_events : (file : LogFile D) (events : List Event) → length events ≡ 0 → GoesOn known synced file file events false
  no_events file events none = subst (λ (es : List Event). GoesOn known synced file file es false) (sym (nil_from_length events none)) (nothing file)

  -- one after the other
  pub then : (old mid new : LogFile D) (first second events : List Event) (tells and : Bool) → first ++ second ≡ events → GoesOn known synced old mid first tells
      → GoesOn known synced mid new second and → GoesOn known synced old new events (tells || and)
  then old mid new first second events tells and are a b k head journal told w =
      same head (synced new.log.device) (synced new.log.device) new.sum new.sum ((journal ++ first) ++ second) (journal ++ events) ((told || tells) || and) (told || (tells || and)) refl refl
      (append_assoc journal first second ∙ ap (λ (es : List Event). journal ++ es) are) (or_assoc told tells and) (b k head (journal ++ first) (told || tells) (a k head journal told w))

-- the end
pub end_kept : (old mid new bytes end : List ℕ) (sum : ℕ) → new ≡ mid ++ end → mid ≡ old → end ≡ end_bytes sum bytes → bytes ≡ old → new ≡ old ++ end_bytes sum old
end_kept old mid new bytes end sum is same_mid end_is are =
    is ∙ ap (λ (b : List ℕ). b ++ end) same_mid ∙ ap (λ (b : List ℕ). old ++ b) (end_is ∙ ap (λ (b : List ℕ). end_bytes sum b) are)

pub ended : (head : LogHead) (old new : List ℕ) (sum s : ℕ) (journal : List Event) (told : Bool) → new ≡ old ++ end_bytes sum old → s ≡ sum
    → IsWholeLog head old sum journal told false → IsWholeLog head new s journal told true
ended head old new sum s journal told kept same_sum w =
    subst (λ (x : ℕ). IsWholeLog head new x journal told true) (sym same_sum) (subst (λ (b : List ℕ). IsWholeLog head b sum journal told true) (sym kept) (logs.ends head old sum journal told w))
