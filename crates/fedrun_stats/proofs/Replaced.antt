-- What is saved in place of a file, and the temporary file until then.
use Rattle.std.proofs.Common.{◌≡◌, ◌≢◌, ◌∙◌, ℕ, ◌+◌, ◌<◌, suc, List, ◌++◌, length, true, Option, None, Some, IsSome, IfSome, refl, sym, ap, subst, arith, length-append}
use Rattle.std.specs.Prelude.{codes}
use Rattle.std.specs.Fmt.{decimal}
use Rattle.fedrun_files.specs.Contents.{AreBytesOf}
use Rattle.files_saving.specs.Contents.{Contents, KnownOf, SameBut, SameButTwo}
use Rattle.files_saving.specs.Saved.{IsCreated, IsWritten, IsRenamed}
use Rattle.files_stats.specs.Stats.{is_stats_text}
use Rattle.fedrun_stats.specs.Saved.{own_name, IsFree, IsLeft, IsReplaced, MayGo}

-- a name with more behind it is another one
another : (name more : List ℕ) → 0 < length more → name ++ more ≢ name
another name more some is =
    let lengths : length name + length more ≡ length name = sym (length-append name more) ∙ ap length is in
    absurd (omega arith)

-- so a temporary file has another name than the file for which it is made
pub another_name : (name made : List ℕ) (drawn : ℕ) → made ≡ own_name name drawn → made ≢ name
another_name name made drawn is_named is =
    let rest : List ℕ = decimal drawn ++ codes ".part" in
    let long : length (codes "." ++ rest) ≡ suc (length rest) = refl in
    another name (codes "." ++ rest) (omega arith) (sym is_named ∙ is)

-- where nothing has changed
pub nothing_changed : (name : List ℕ) (contents : Option Contents) → KnownOf contents contents (SameBut name)
nothing_changed name None = _
nothing_changed name (Some contents) = λ other differs. refl

-- one file changes twice
changed_twice : (name : List ℕ) (before between now : Contents) → SameBut name before between → SameBut name between now → SameBut name before now
changed_twice name before between now first second other differs = second other differs ∙ first other differs

-- and so it is where that is known
pub both_changes : (name : List ℕ) (before between now : Option Contents) → KnownOf before between (SameBut name) → KnownOf between now (SameBut name) →
    KnownOf before now (SameBut name)
both_changes name None between now first second = _
both_changes name (Some before) None now first second = absurd first
both_changes name (Some before) (Some between) None first second = absurd second
both_changes name (Some before) (Some between) (Some now) first second = changed_twice name before between now first second

-- a file that was made wasn't there before
pub free_before : (name bytes : List ℕ) (before now : Option Contents) → KnownOf before now (IsCreated name bytes) → IsFree before name
free_before name bytes None now c = _
free_before name bytes (Some before) None c = absurd c
free_before name bytes (Some before) (Some now) c = c.was_free

-- where it is made, no other one has changed
pub created_but : (name bytes : List ℕ) (before now : Option Contents) → KnownOf before now (IsCreated name bytes) → KnownOf before now (SameBut name)
created_but name bytes None now c = _
created_but name bytes (Some before) None c = absurd c
created_but name bytes (Some before) (Some now) c = c.others

-- a file that is made, and changed or taken away again
pub made_and_gone : (name bytes : List ℕ) (before between now : Option Contents) → KnownOf before between (IsCreated name bytes) → KnownOf between now (SameBut name) →
    KnownOf before now (SameBut name)
made_and_gone name bytes before between now c gone = both_changes name before between now (created_but name bytes before between c) gone

made_with : (name first bytes : List ℕ) (before between now : Contents) → IsCreated name first before between → IsWritten name bytes between now → IsCreated name bytes before now
made_with name first bytes before between now c w = record {
  was_free = c.was_free;
  bytes_are = w.bytes_are;
  others = λ other differs. w.others other differs ∙ c.others other differs;
}

-- a file that is made, and written
pub created_with : (name first bytes : List ℕ) (before between now : Option Contents) → KnownOf before between (IsCreated name first) → KnownOf between now (IsWritten name bytes) →
    KnownOf before now (IsCreated name bytes)
created_with name first bytes None between now c w = _
created_with name first bytes (Some before) None now c w = absurd c
created_with name first bytes (Some before) (Some between) None c w = absurd w
created_with name first bytes (Some before) (Some between) (Some now) c w = made_with name first bytes before between now c w

-- a file whose bytes were read and may go
pub read_so : (name read : List ℕ) (bytes : Option (List ℕ)) (contents : Option Contents) → AreBytesOf bytes read → is_stats_text read ≡ true → MayGo contents bytes name
read_so name read bytes None are may = _
read_so name read None (Some held) are may = λ is_there. _
read_so name read (Some known) (Some held) are may = λ is_there. subst (λ (b : List ℕ). is_stats_text b ≡ true) are may

-- a file that may go after another one has changed might have gone before
pub still_may_go : (temporary name : List ℕ) (bytes : Option (List ℕ)) (before now : Option Contents) → temporary ≢ name → KnownOf before now (SameBut temporary) →
    MayGo now bytes name → MayGo before bytes name
still_may_go temporary name bytes None now differ same may = _
still_may_go temporary name bytes (Some before) None differ same may = absurd same
still_may_go temporary name bytes (Some before) (Some now) differ same may =
    let here : now name ≡ before name = same name (λ is. differ (sym is)) in
    subst (λ (held : Option (List ℕ)). IsSome held → IfSome bytes (λ known. is_stats_text known ≡ true)) here may

-- of two files one has changed at most
pub one_of_two : (temporary name : List ℕ) (before now : Option Contents) → KnownOf before now (SameBut temporary) → KnownOf before now (SameButTwo temporary name)
one_of_two temporary name None now same = _
one_of_two temporary name (Some before) None same = absurd same
one_of_two temporary name (Some before) (Some now) same = λ other not_temporary not_name. same other not_temporary

-- where it is saved, no other file has changed
pub replaced_two : (temporary name bytes : List ℕ) (before now : Option Contents) → KnownOf before now (IsReplaced temporary name bytes) →
    KnownOf before now (SameButTwo temporary name)
replaced_two temporary name bytes None now r = _
replaced_two temporary name bytes (Some before) None r = absurd r
replaced_two temporary name bytes (Some before) (Some now) r = r.others

-- nor where it is left in the temporary file
pub left_two : (temporary name bytes : List ℕ) (before now : Option Contents) → KnownOf before now (IsLeft temporary name bytes) →
    KnownOf before now (SameButTwo temporary name)
left_two temporary name bytes None now r = _
left_two temporary name bytes (Some before) None r = absurd r
left_two temporary name bytes (Some before) (Some now) r = r.others

-- where the temporary file is made with all of it, that stands there
pub left_there : (temporary name bytes : List ℕ) (before made : Option Contents) → KnownOf before made (IsCreated temporary bytes) →
    KnownOf before made (IsLeft temporary name bytes)
left_there temporary name bytes None made c = _
left_there temporary name bytes (Some before) None c = absurd c
left_there temporary name bytes (Some before) (Some made) c =
    record { bytes_are = c.bytes_are; others = λ other not_temporary not_name. c.others other not_temporary }

module _ (temporary name bytes : List ℕ) (differ : temporary ≢ name) where
  is_replaced : (before made free now : Contents) → IsCreated temporary bytes before made → SameBut name made free → IsRenamed temporary name free now →
      IsReplaced temporary name bytes before now
  is_replaced before made free now c f r = record {
    bytes_are = r.moved ∙ f temporary differ ∙ c.bytes_are;
    gone = r.gone;
    others = λ other not_temporary not_name. r.others other not_temporary not_name ∙ f other not_name ∙ c.others other not_temporary;
  }

  -- the temporary file is made, the other one taken away, and its name given to it
  pub replaced : (before made free now : Option Contents) → KnownOf before made (IsCreated temporary bytes) → KnownOf made free (SameBut name) →
      KnownOf free now (IsRenamed temporary name) → KnownOf before now (IsReplaced temporary name bytes)
  replaced None made free now c f r = _
  replaced (Some before) None free now c f r = absurd c
  replaced (Some before) (Some made) None now c f r = absurd f
  replaced (Some before) (Some made) (Some free) None c f r = absurd r
  replaced (Some before) (Some made) (Some free) (Some now) c f r = is_replaced before made free now c f r

  is_left : (before made free : Contents) → IsCreated temporary bytes before made → SameBut name made free → IsLeft temporary name bytes before free
  is_left before made free c f = record {
    bytes_are = f temporary differ ∙ c.bytes_are;
    others = λ other not_temporary not_name. f other not_name ∙ c.others other not_temporary;
  }

  -- it is made, and only doesn't get the name
  pub left : (before made free now : Option Contents) → KnownOf before made (IsCreated temporary bytes) → KnownOf made free (SameBut name) → now ≡ free →
      KnownOf before now (IsLeft temporary name bytes)
  left None made free now c f is = _
  left (Some before) None free now c f is = absurd c
  left (Some before) (Some made) None now c f is = absurd f
  left (Some before) (Some made) (Some free) now c f is =
      subst (λ (n : Option Contents). KnownOf (Some before) n (IsLeft temporary name bytes)) (sym is) (is_left before made free c f)
