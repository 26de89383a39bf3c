-- The bytes of frames are read again as these frames.
use Rattle.std.proofs.Common.{◌≡◌, ℕ, ◌+◌, ◌^◌, ◌<◌, ◌≤◌, eqb, List, [], ◌∷◌, ◌++◌, length, get_or, refl, sym, ap, subst, ◌∙◌, arith, append_assoc}
use Rattle.std.specs.List.{flat_map, AllByRecursion}
use Rattle.std.proofs.lemmas.Bool.{and_parts, eqb-true, false≢true}
use Rattle.signal.specs.declared.signal.Signal.{Signal}
use Rattle.signal.specs.declared.frame.Frame.{Frame}
use Rattle.signal.specs.declared.frame.Frame.TheVariants.{Hello, Data, Ack, Refuse}
use Rattle.signal.specs.Signal.{IsSignal}
use Rattle.signal.specs.Batch.{numbered, batch_of}
use Rattle.signal.specs.Frame.{body_of, framed, frame_bytes_by, IsFrame, Spells, one, several}
use Rattle.signal.specs.Stream.{Splits, done, more}
use Rattle.signal.specs.Pieces.{IsStretch, IsPiece, signals_of, batch_bytes, piece_bytes, written}
use Rattle.signal.proofs.Numbered.{length-numbered}
use Rattle.signal.proofs.Cutting.{cut_from, joined, in_order, are_pieces, most_of, most_fits, written_from}

-- a frame's own spelling
pub frame_spells : (version : ℕ) (frame : Frame) → 0 < version → version < 256 → IsFrame frame → Spells (frame_bytes_by version frame) (frame ∷ [])
frame_spells version frame from_one one_byte h = record {
  body = body_of version frame;
  carries = one frame (record { version = version; from_one = from_one; one_byte = one_byte; is_frame = h; is_body = refl });
  is_framed = refl;
}

-- Data frames in a row are numbered signals
pub in_a_row : (incarnation number : ℕ) (signal : Signal) (frames : List Frame) → IsStretch (Data incarnation number signal ∷ frames)
    → Data incarnation number signal ∷ frames ≡ numbered incarnation number (signals_of (Data incarnation number signal ∷ frames))
in_a_row i n s [] h = refl
in_a_row i n s (Data j m t ∷ frames) h =
    let both = and_parts (eqb j i) (eqb m (n + 1)) h.0 in
    let same : j ≡ i = eqb-true j i both.0 in
    let next : m ≡ n + 1 = eqb-true m (n + 1) both.1 in
    ap (λ (fs : List Frame). Data i n s ∷ fs) (
    in_a_row j m t frames h.1 ∙ ap (λ (k : ℕ). numbered k m (signals_of (Data j m t ∷ frames))) same ∙ ap (λ (k : ℕ). numbered i k (signals_of (Data j m t ∷ frames))) next
    )
in_a_row i n s (Hello hello ∷ frames) h = absurd (false≢true h.0)
in_a_row i n s (Ack j m ∷ frames) h = absurd (false≢true h.0)
in_a_row i n s (Refuse j m ∷ frames) h = absurd (false≢true h.0)

-- their numbers and signals
pub last_fits : (i n : ℕ) (signals : List Signal) → 0 < length signals → AllByRecursion IsFrame (numbered i n signals) → n + length signals ≤ 2 ^ 64
last_fits i n [] some h = absurd (omega arith)
last_fits i n (s ∷ []) some h = omega (arith, h.0.1)
last_fits i n (s ∷ t ∷ signals) some h = let later = last_fits i (n + 1) (t ∷ signals) (omega arith) h.1 in omega arith

are_signals : (i n : ℕ) (signals : List Signal) → AllByRecursion IsFrame (numbered i n signals) → AllByRecursion IsSignal signals
are_signals i n [] h = tt
are_signals i n (s ∷ signals) h = (h.0.2, are_signals i (n + 1) signals h.1)

batch_spells : (own i n : ℕ) (s : Signal) (next : Frame) (frames : List Frame) → IsPiece (Data i n s ∷ next ∷ frames) → AllByRecursion IsFrame (Data i n s ∷ next ∷ frames)
    → Spells (piece_bytes own (Data i n s ∷ next ∷ frames)) (Data i n s ∷ next ∷ frames)
batch_spells own i n s next frames h each =
    let piece : List Frame = Data i n s ∷ next ∷ frames in
    let signals = signals_of piece in
    let row : piece ≡ numbered i n signals = in_a_row i n s (next ∷ frames) h.0 in
    let many : length piece ≡ length signals = ap length row ∙ length-numbered i n signals in
    let all : AllByRecursion IsFrame (numbered i n signals) = subst (AllByRecursion IsFrame) row each in
    record {
      body = batch_of i n signals;
      carries = several piece (record {
        incarnation = i;
        first = n;
        signals = signals;
        several = omega arith;
        few = omega (arith, h.1);
        incarnation_fits = each.0.0;
        numbers_fit = last_fits i n signals (omega arith) all;
        are_signals = are_signals i n signals all;
        carries = row;
        is_body = refl;
      });
      is_framed = refl;
    }

piece_spells : (own : ℕ) (piece : List Frame) → 0 < own → own < 256 → IsPiece piece → AllByRecursion IsFrame piece → Spells (piece_bytes own piece) piece
piece_spells own [] from_one one_byte h each = absurd h.0
piece_spells own (frame ∷ []) from_one one_byte h each = frame_spells own frame from_one one_byte each.0
piece_spells own (Data i n s ∷ next ∷ frames) from_one one_byte h each = batch_spells own i n s next frames h each
piece_spells own (Hello hello ∷ next ∷ frames) from_one one_byte h each = absurd (false≢true h.0.0)
piece_spells own (Ack i n ∷ next ∷ frames) from_one one_byte h each = absurd (false≢true h.0.0)
piece_spells own (Refuse i n ∷ next ∷ frames) from_one one_byte h each = absurd (false≢true h.0.0)

front_of : (xs ys : List Frame) → AllByRecursion IsFrame (xs ++ ys) → AllByRecursion IsFrame xs × AllByRecursion IsFrame ys
front_of [] ys h = (tt, h)
front_of (x ∷ xs) ys h = let rest = front_of xs ys h.1 in ((h.0, rest.0), rest.1)

pieces_split : (own : ℕ) (pieces : List (List Frame)) (rest : List ℕ) → 0 < own → own < 256 → AllByRecursion IsPiece pieces → AllByRecursion IsFrame (joined pieces)
    → Splits (flat_map (piece_bytes own) pieces ++ rest) (joined pieces) rest
pieces_split own [] rest from_one one_byte each all = done refl refl
pieces_split own (piece ∷ pieces) rest from_one one_byte each all =
    let halves = front_of piece (joined pieces) all in
    more (piece_bytes own piece) (flat_map (piece_bytes own) pieces ++ rest) piece (joined pieces) (piece_spells own piece from_one one_byte each.0 halves.0)
    (append_assoc (piece_bytes own piece) (flat_map (piece_bytes own) pieces) rest) refl (pieces_split own pieces rest from_one one_byte each.1 halves.1)

-- what was written is read again, whatever follows
pub written_splits : (own peer : ℕ) (frames : List Frame) (rest : List ℕ) → 0 < own → own < 256 → AllByRecursion IsFrame frames → Splits (written own peer frames ++ rest) frames rest
written_splits own peer frames rest from_one one_byte each =
    let most = most_of own peer in
    let fits = most_fits own peer in
    let pieces = cut_from most most frames in
    let whole : joined pieces ≡ frames = in_order most frames most in
    let split : Splits (flat_map (piece_bytes own) pieces ++ rest) (joined pieces) rest = pieces_split own pieces rest from_one one_byte (are_pieces most frames fits.0 fits.1) (subst (AllByRecursion IsFrame) (sym whole) each) in
    subst (λ (b : List ℕ). Splits (b ++ rest) frames rest) (sym (written_from own peer frames)) (subst (λ (fs : List Frame). Splits (flat_map (piece_bytes own) pieces ++ rest) fs rest) whole split)

-- ---- several frames in a row

-- each has a signal
pub signals_many : (piece : List Frame) → IsStretch piece → 1 < length piece → length (signals_of piece) ≡ length piece
signals_many [] h many = absurd h
signals_many (frame ∷ []) h many = absurd (omega arith)
signals_many (Data i n s ∷ next ∷ frames) h many =
    sym (ap length (in_a_row i n s (next ∷ frames) h) ∙ length-numbered i n (signals_of (Data i n s ∷ next ∷ frames)))
signals_many (Hello hello ∷ next ∷ frames) h many = absurd (false≢true h.0)
signals_many (Ack i n ∷ next ∷ frames) h many = absurd (false≢true h.0)
signals_many (Refuse i n ∷ next ∷ frames) h many = absurd (false≢true h.0)

-- what they are as a Batch, by the first
pub batch_by_first : (piece : List Frame) (d : Frame) (i n : ℕ) (s : Signal) → 0 < length piece → get_or piece 0 d ≡ Data i n s → batch_bytes piece ≡ framed (batch_of i n (signals_of piece))
batch_by_first [] d i n s some e = absurd (omega arith)
batch_by_first (frame ∷ frames) d i n s some e =
    ap (λ (f : Frame). batch_bytes (f ∷ frames)) e ∙ sym (ap (λ (f : Frame). framed (batch_of i n (signals_of (f ∷ frames)))) e)
