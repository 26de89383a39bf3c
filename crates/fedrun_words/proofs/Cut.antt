-- Pieces of texts that are put together.
use Rattle.std.proofs.Common.{◌≡◌, ℕ, zero, suc, ◌+◌, ◌-◌, ◌≤◌, ◌<◌, min, List, [], ◌∷◌, ◌++◌, length, take, drop, Option, None, Some, IfSome, ap, sym, ◌∙◌, refl, subst, arith, append_assoc, append-nil}
use Rattle.std.proofs.lemmas.List.{take_rest}
use Rattle.std.proofs.Math.Seq.{take-add, take-take, take_all, take-nil, drop-nil}
use Rattle.std.proofs.Math.ListN.{length-append, length-take, length-drop}
use Rattle.std.specs.Fmt.{WritesText}
use Rattle.std.specs.List.{FoldsTo, concat}
use Rattle.std.specs.Io.KnownBytes.{Appends}
use Rattle.std.proofs.KnownBytes.{Appends-trans}
use Rattle.fedrun_words.specs.declared.piece.TheConstants.{PIECE}
use Rattle.fedrun_words.specs.Pieces.{AppendsPrefix, IsPiece}

drop_over : (n : ℕ) (xs ys : List ℕ) → drop n (xs ++ ys) ≡ drop n xs ++ drop (n - length xs) ys
drop_over zero xs ys = let none : 0 ≡ 0 - length xs = omega arith in ap (λ k. xs ++ drop k ys) none
drop_over (suc n) [] ys = let same : suc n ≡ suc n - 0 = omega arith in ap (λ k. drop k ys) same
drop_over (suc n) (x ∷ xs) ys =
    let same : n - length xs ≡ suc n - suc (length xs) = omega arith in drop_over n xs ys ∙ ap (λ k. drop n xs ++ drop k ys) same

take_over : (n : ℕ) (xs ys : List ℕ) → take n (xs ++ ys) ≡ take n xs ++ take (n - length (take n xs)) ys
take_over zero xs ys = refl
take_over (suc n) [] ys = let same : suc n ≡ suc n - 0 = omega arith in ap (λ k. take k ys) same
take_over (suc n) (x ∷ xs) ys =
    let same : n - length (take n xs) ≡ suc n - suc (length (take n xs)) = omega arith in
    ap (λ l. x ∷ l) (take_over n xs ys ∙ ap (λ k. take n xs ++ take k ys) same)

drop_at_most : (n : ℕ) (xs : List ℕ) → drop (min n (length xs)) xs ≡ drop n xs
drop_at_most zero xs = let none : min 0 (length xs) ≡ 0 = omega arith in ap (λ k. drop k xs) none
drop_at_most (suc n) [] = let none : min (suc n) 0 ≡ 0 = omega arith in ap (λ k. drop k []) none
drop_at_most (suc n) (x ∷ xs) =
    let same : min (suc n) (suc (length xs)) ≡ suc (min n (length xs)) = omega arith in ap (λ k. drop k (x ∷ xs)) same ∙ drop_at_most n xs

take_at_most : (n : ℕ) (xs : List ℕ) → take (min n (length xs)) xs ≡ take n xs
take_at_most zero xs = let none : min 0 (length xs) ≡ 0 = omega arith in ap (λ k. take k xs) none
take_at_most (suc n) [] = let none : min (suc n) 0 ≡ 0 = omega arith in ap (λ k. take k []) none
take_at_most (suc n) (x ∷ xs) =
    let same : min (suc n) (suc (length xs)) ≡ suc (min n (length xs)) = omega arith in
    ap (λ k. take k (x ∷ xs)) same ∙ ap (λ l. x ∷ l) (take_at_most n xs)

-- a piece grows by more of the text
pub piece_grows : (from : ℕ) (text bytes : List ℕ) (before : ℕ) (kept : List ℕ) (passed count : ℕ) → passed ≡ min before (length bytes)
    → count ≡ min (PIECE - length kept) (length (drop passed bytes)) → IsPiece from text before kept
    → IsPiece from (text ++ bytes) (before - passed) (kept ++ take count (drop passed bytes))
piece_grows from text bytes before kept passed count passed_is count_is piece =
    let rest : drop passed bytes ≡ drop (from - length text) bytes =
    ap (λ k. drop k bytes) passed_is ∙ drop_at_most before bytes ∙ ap (λ k. drop k bytes) piece.before_is in
    let more : take count (drop passed bytes) ≡ take (PIECE - length kept) (drop (from - length text) bytes) =
    ap (λ k. take k (drop passed bytes)) count_is ∙ take_at_most (PIECE - length kept) (drop passed bytes)
    ∙ ap (take (PIECE - length kept)) rest in
    let all : take PIECE (drop from (text ++ bytes)) ≡ take PIECE (drop from text)
    ++ take (PIECE - length (take PIECE (drop from text))) (drop (from - length text) bytes) =
    ap (take PIECE) (drop_over from text bytes) ∙ take_over PIECE (drop from text) (drop (from - length text) bytes) in
    record {
      before_is = omega (arith, passed_is, piece.before_is, length-append text bytes);
      kept_is = ap (λ l. kept ++ l) more
          ∙ ap (λ l. l ++ take (PIECE - length l) (drop (from - length text) bytes)) piece.kept_is
          ∙ sym all;
    }

module _ {W : Type 0} (took : W → List ℕ → W → Type 0) (before : W → ℕ) (kept : W → List ℕ)
    (goes_on : (s : W) (bytes : List ℕ) (t : W) → took s bytes t → (from : ℕ) (text : List ℕ) → IsPiece from text (before s) (kept s)
    → IsPiece from (text ++ bytes) (before t) (kept t)) where
  piece_after : (w : W) (parts : List (List ℕ)) (v : W) (from : ℕ) (text : List ℕ) → FoldsTo took w parts v → IsPiece from text (before w) (kept w)
      → IsPiece from (text ++ concat parts) (before v) (kept v)
  piece_after w [] v from text calls piece =
      subst (λ x. IsPiece from (text ++ []) (before x) (kept x)) calls (subst (λ t. IsPiece from t (before w) (kept w)) (sym (append-nil text)) piece)
  piece_after w (part ∷ parts) v from text calls piece =
      subst (λ t. IsPiece from t (before v) (kept v)) (append_assoc text part (concat parts))
      (piece_after calls.0 parts v from (text ++ part) calls.2 (goes_on w part calls.0 calls.1 from text piece))

  -- what an empty piece keeps of a text that is written to it
  pub piece_of_text : (output : Option (List ℕ)) (from : ℕ) (w v : W) → before w ≡ from → kept w ≡ [] → WritesText took w output v
      → IfSome output (λ bytes. kept v ≡ take PIECE (drop from bytes))
  piece_of_text None from w v at empty writes = tt
  piece_of_text (Some bytes) from w v at empty writes =
      let nothing : [] ≡ take PIECE (drop from []) = sym (ap (take PIECE) (drop-nil from) ∙ take-nil PIECE) in
      let start : IsPiece from [] (before w) (kept w) = record { before_is = omega (arith, at); kept_is = empty ∙ nothing } in
      let end : IsPiece from bytes (before v) (kept v) =
      subst (λ t. IsPiece from t (before v) (kept v)) writes.whole (piece_after w writes.parts v from [] writes.calls start) in
      end.kept_is

-- what was written of some bytes grows by what was written of the rest
pub written_more : (a b c : Option (List ℕ)) (bytes : List ℕ) (done count : ℕ) → Appends a b (take done bytes)
    → Appends b c (take count (take (length bytes - done) (drop done bytes))) → Appends a c (take (done + count) bytes)
written_more a b c bytes done count so_far more =
    subst (Appends a c) (ap (λ l. take done bytes ++ take count l) (take_rest bytes done) ∙ sym (take-add done count bytes))
    (Appends-trans a b c (take done bytes) (take count (take (length bytes - done) (drop done bytes))) so_far more)

-- what was printed of a text grows by what was written of the next piece
pub printed_grows : (output : Option (List ℕ)) (a b c : Option (List ℕ)) (told count : ℕ) (piece slice : List ℕ)
    → IfSome output (λ text. Appends a b (take told text)) → IfSome output (λ text. piece ≡ take PIECE (drop told text)) → slice ≡ piece
    → Appends b c (take count slice) → count ≤ length slice → IfSome output (λ text. Appends a c (take (told + count) text))
printed_grows None a b c told count piece slice so_far piece_is slice_is written few = tt
printed_grows (Some text) a b c told count piece slice so_far piece_is slice_is written few =
    let few_enough : count ≤ PIECE = omega (arith, few, ap length (slice_is ∙ piece_is), length-take PIECE (drop told text)) in
    let next : take count slice ≡ take count (drop told text) =
    ap (take count) (slice_is ∙ piece_is) ∙ take-take count PIECE (drop told text) few_enough in
    subst (Appends a c) (ap (λ l. take told text ++ l) next ∙ sym (take-add told count text))
    (Appends-trans a b c (take told text) (take count slice) so_far written)

-- a front of a text is a prefix of it
pub is_begun : (output : Option (List ℕ)) (a b : Option (List ℕ)) (told : ℕ) → IfSome output (λ text. Appends a b (take told text))
    → IfSome output (AppendsPrefix a b)
is_begun None a b told so_far = tt
is_begun (Some text) a b told so_far = (told, so_far)

-- after a piece that isn't full nothing is left
pub is_whole : (output : Option (List ℕ)) (a b : Option (List ℕ)) (told count : ℕ) (piece : List ℕ)
    → IfSome output (λ text. piece ≡ take PIECE (drop told text)) → count ≡ length piece → count < PIECE
    → IfSome output (λ text. Appends a b (take (told + count) text)) → IfSome output (Appends a b)
is_whole None a b told count piece piece_is full short so_far = tt
is_whole (Some text) a b told count piece piece_is full short so_far =
    let all : length text ≤ told + count =
    omega (arith, ap length piece_is, length-take PIECE (drop told text), length-drop told text, full, short) in
    subst (Appends a b) (take_all (told + count) text all) so_far
