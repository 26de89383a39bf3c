-- What was printed of a source in which nothing is wrong.
use Rattle.std.proofs.Common.{◌≡◌, ℕ, List, [], Option, subst}
use Rattle.std.specs.Prelude.{Result, Ok, Err, OnOk}
use Rattle.fedrun_files.specs.Contents.{Contents, AreBytesOf}
use Rattle.fedrun_files.specs.Loaded.{input_file}
use Rattle.expand_federation.specs.Made.{IsFederationOf}
use Rattle.fedrun_lint_source.specs.Looked.{PrintsRightText, PrintsRight, PrintsLint, PrintsSome}

-- the federation file that a source becomes
pub right_source : {X E : Type 0} (r : Result X E) (name source text inputs_name inputs : List ℕ) (before after : Option (List ℕ)) → IsFederationOf source [] text
    → OnOk r (PrintsRightText name text inputs_name inputs before after) → OnOk r (PrintsRight name source inputs_name inputs before after)
right_source (Ok x) name source text inputs_name inputs before after is printed = (text, is, printed)
right_source (Err e) name source text inputs_name inputs before after is printed = tt

-- the bytes of two files, handed on as slices; the second was read where the first had been
pub right_files : {X E : Type 0} (r : Result X E) (contents later : Contents) (name inputs_name source source_slice inputs inputs_slice : List ℕ) (before after : Option (List ℕ))
    → later ≡ contents → AreBytesOf (contents name) source → AreBytesOf (input_file later inputs_name) inputs → source_slice ≡ source → inputs_slice ≡ inputs
    → OnOk r (PrintsRight name source_slice inputs_name inputs_slice before after) → OnOk r (PrintsLint contents name inputs_name before after)
right_files (Ok x) contents later name inputs_name source source_slice inputs inputs_slice before after stays source_is inputs_are same same_inputs printed = record {
  source_bytes = source;
  input_bytes = inputs;
  source_is = source_is;
  inputs_are = subst (λ (files : Contents). AreBytesOf (input_file files inputs_name) inputs) stays inputs_are;
  prints =
      subst (λ (bytes : List ℕ). PrintsRight name source inputs_name bytes before after) same_inputs
      (subst (λ (bytes : List ℕ). PrintsRight name bytes inputs_name inputs_slice before after) same printed);
}
right_files (Err e) contents later name inputs_name source source_slice inputs inputs_slice before after stays source_is inputs_are same same_inputs printed = tt

-- the files of these names
pub some_right : {X E : Type 0} (r : Result X E) (contents : Contents) (name inputs_name : List ℕ) (before after : Option (List ℕ))
    → OnOk r (PrintsLint contents name inputs_name before after) → OnOk r (PrintsSome contents before after)
some_right (Ok x) contents name inputs_name before after printed = (name, inputs_name, printed)
some_right (Err e) contents name inputs_name before after printed = tt
