-- The digest at the end of a file, and the name and the digests at its front.
use Rattle.std.proofs.Common.{◌≡◌, ◌≢◌, ℕ, ◌+◌, ◌-◌, ◌≤◌, List, ◌++◌, length, take, drop, Option, Some, None, refl, sym, ap, ◌∙◌, append_assoc, arith}
use Rattle.std.specs.Prelude.{MatchOption}
use Rattle.std.proofs.lemmas.List.{append_cancel_left, take_at, drop_at, length-append}
use Rattle.sha2.specs.Sha256.{sha256}
use Rattle.sha2.proofs.Facts256.{length-sha256}
use Rattle.files_reports.specs.declared.file_digests.FileDigests.{FileDigests}
use Rattle.files_reports.specs.File.{format, sealed, headed}

-- what is sealed has a digest's length at least
pub long_enough : (bytes content : List ℕ) → bytes ≡ sealed content → 32 ≤ length bytes
long_enough bytes content e = omega (arith, ap length e, length-append content (sha256 content), length-sha256 content)

-- and that digest stands at its end
pub at_the_end : (bytes content : List ℕ) → bytes ≡ sealed content → (take (length bytes - 32) bytes ≡ content) × (drop (length bytes - 32) bytes ≡ sha256 content)
at_the_end bytes content e =
    let size : length bytes ≡ length content + 32 = omega (arith, ap length e, length-append content (sha256 content), length-sha256 content) in
    let place : length bytes - 32 ≡ length content = omega arith in (
      ap (λ (n : ℕ). take n bytes) place ∙ ap (take (length content)) e ∙ take_at content (sha256 content) (length content) refl,
      ap (λ (n : ℕ). drop n bytes) place ∙ ap (drop (length content)) e ∙ drop_at content (sha256 content) (length content) refl,
    )

-- where another digest stands there, nothing is sealed by it
pub unsealed : (bytes content seal : List ℕ) → content ≡ take (length bytes - 32) bytes → seal ≡ drop (length bytes - 32) bytes → seal ≢ sha256 content → (other : List ℕ) → bytes ≢ sealed other
unsealed bytes content seal front back apart other e =
    let end = at_the_end bytes other e in
    apart (back ∙ end.1 ∙ ap sha256 (sym end.0 ∙ sym front))

-- one content is sealed by a digest at the end
pub one_content : (bytes content other : List ℕ) → bytes ≡ sealed content → bytes ≡ sealed other → content ≡ other
one_content bytes content other e f = sym (at_the_end bytes content e).0 ∙ (at_the_end bytes other f).0

-- ---- the name and the digests of two files

-- what doesn't begin with the name isn't headed so
pub no_name : (files : FileDigests) (content named : List ℕ) → named ≡ format → ((rest : List ℕ) → content ≢ named ++ rest) → (said : List ℕ) → content ≢ headed files said
no_name files content named n h said e =
    let behind = files.federation ++ (files.inputs ++ said) in
    h behind (e ∙ ap (λ (l : List ℕ). l ++ behind) (sym n))

-- what stands behind the name and the first digest of what is headed so
pub behind_both : (files : FileDigests) (content named rest others said : List ℕ) → named ≡ format → content ≡ named ++ rest → rest ≡ files.federation ++ others → content ≡ headed files said → others ≡ files.inputs ++ said
behind_both files content named rest others said n a b e =
    let inside = files.inputs ++ said in
    let same : rest ≡ files.federation ++ inside = append_cancel_left format rest (files.federation ++ inside) (ap (λ (l : List ℕ). l ++ rest) (sym n) ∙ sym a ∙ e) in
    append_cancel_left files.federation others inside (sym b ∙ same)

pub headed_so : (files : FileDigests) (content named rest others said : List ℕ) → named ≡ format → content ≡ named ++ rest → rest ≡ files.federation ++ others → others ≡ files.inputs ++ said → content ≡ headed files said
headed_so files content named rest others said n a b d =
    a ∙ ap (λ (l : List ℕ). l ++ rest) n ∙ ap (λ (l : List ℕ). format ++ l) (b ∙ ap (λ (l : List ℕ). files.federation ++ l) d)

-- what follows in each case
pub by_cases : {X : Type 0} (found : Option X) (P Q : Type 0) (R S : X → Type 0) → (P → Q) → ((x : X) → R x → S x) → MatchOption found P R → MatchOption found Q S
by_cases None P Q R S f g h = f h
by_cases (Some x) P Q R S f g h = g x h

-- the name, the two digests and what is said, written one behind the other, and the digest of all that
pub whole : (files : FileDigests) (said named first second content all digest : List ℕ) → named ≡ format → first ≡ named ++ files.federation → second ≡ first ++ files.inputs → content ≡ second ++ said
    → digest ≡ sha256 content → all ≡ content ++ digest → all ≡ sealed (headed files said)
whole files said named first second content all digest n a b d e w =
    let head : second ≡ format ++ (files.federation ++ files.inputs) =
    b ∙ ap (λ (l : List ℕ). l ++ files.inputs) (a ∙ ap (λ (l : List ℕ). l ++ files.federation) n) ∙ append_assoc format files.federation files.inputs in
    let inside : content ≡ headed files said =
    d ∙ ap (λ (l : List ℕ). l ++ said) head ∙ append_assoc format (files.federation ++ files.inputs) said ∙ ap (λ (l : List ℕ). format ++ l) (append_assoc files.federation files.inputs said) in
    w ∙ ap (λ (l : List ℕ). content ++ l) e ∙ ap sealed inside
