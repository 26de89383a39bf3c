-- Frames that are counted one after the other.
use Rattle.std.proofs.Common.{◌≡◌, ◌∙◌, ℕ, ◌+◌, ◌<◌, Bool, true, false, cond, if◌then◌else◌, nat_eq, List, [], length, take, get_or, add-zero, refl, sym, ap, arith}
use Rattle.std.proofs.lemmas.List.Filters.{length-filter_more}
use Rattle.signal.specs.declared.frame.Frame.{Frame}
use Rattle.wires_traffic.specs.declared.frame_counts.FrameCounts.{FrameCounts}
use Rattle.wires_traffic.specs.declared.kind.FrameKind.{FrameKind}
use Rattle.wires_traffic.specs.declared.kind.FrameKind.TheVariants.{Hello, Net, Ltc, Tag, Msg, Again, Ack, Refuse}
use Rattle.wires_traffic.specs.Kinds.{kind_of, number_of, place_of}
use Rattle.wires_traffic.specs.Sums.{count_of, kept, no_frames, with_one}
use Rattle.wires_traffic.specs.Counter.{counts_of}

-- whether a kind is another one
abbrev same : FrameKind → FrameKind → Bool
same kind other = nat_eq (place_of kind) (place_of other)

-- of no frames there is none of any kind
pub none_counted : (kind : FrameKind) (before : ℕ) → count_of kind no_frames ≡ kept (number_of kind before [])
none_counted Hello before = refl
none_counted Net before = refl
none_counted Ltc before = refl
none_counted Tag before = refl
none_counted Msg before = refl
none_counted Again before = refl
none_counted Ack before = refl
none_counted Refuse before = refl

-- one frame more changes the count of its own kind, and no other
one_counted : (kind made : FrameKind) (counts : FrameCounts) →
    count_of kind (with_one made counts) ≡ (if same made kind then kept (count_of kind counts + 1) else count_of kind counts)
one_counted Hello Hello counts = refl
one_counted Hello Net counts = refl
one_counted Hello Ltc counts = refl
one_counted Hello Tag counts = refl
one_counted Hello Msg counts = refl
one_counted Hello Again counts = refl
one_counted Hello Ack counts = refl
one_counted Hello Refuse counts = refl
one_counted Net Hello counts = refl
one_counted Net Net counts = refl
one_counted Net Ltc counts = refl
one_counted Net Tag counts = refl
one_counted Net Msg counts = refl
one_counted Net Again counts = refl
one_counted Net Ack counts = refl
one_counted Net Refuse counts = refl
one_counted Ltc Hello counts = refl
one_counted Ltc Net counts = refl
one_counted Ltc Ltc counts = refl
one_counted Ltc Tag counts = refl
one_counted Ltc Msg counts = refl
one_counted Ltc Again counts = refl
one_counted Ltc Ack counts = refl
one_counted Ltc Refuse counts = refl
one_counted Tag Hello counts = refl
one_counted Tag Net counts = refl
one_counted Tag Ltc counts = refl
one_counted Tag Tag counts = refl
one_counted Tag Msg counts = refl
one_counted Tag Again counts = refl
one_counted Tag Ack counts = refl
one_counted Tag Refuse counts = refl
one_counted Msg Hello counts = refl
one_counted Msg Net counts = refl
one_counted Msg Ltc counts = refl
one_counted Msg Tag counts = refl
one_counted Msg Msg counts = refl
one_counted Msg Again counts = refl
one_counted Msg Ack counts = refl
one_counted Msg Refuse counts = refl
one_counted Again Hello counts = refl
one_counted Again Net counts = refl
one_counted Again Ltc counts = refl
one_counted Again Tag counts = refl
one_counted Again Msg counts = refl
one_counted Again Again counts = refl
one_counted Again Ack counts = refl
one_counted Again Refuse counts = refl
one_counted Ack Hello counts = refl
one_counted Ack Net counts = refl
one_counted Ack Ltc counts = refl
one_counted Ack Tag counts = refl
one_counted Ack Msg counts = refl
one_counted Ack Again counts = refl
one_counted Ack Ack counts = refl
one_counted Ack Refuse counts = refl
one_counted Refuse Hello counts = refl
one_counted Refuse Net counts = refl
one_counted Refuse Ltc counts = refl
one_counted Refuse Tag counts = refl
one_counted Refuse Msg counts = refl
one_counted Refuse Again counts = refl
one_counted Refuse Ack counts = refl
one_counted Refuse Refuse counts = refl

-- a count that stops doesn't go on
kept_more : (n : ℕ) → kept (kept n + 1) ≡ kept (n + 1)
kept_more n = grind arith

both_more : (b : Bool) (count n : ℕ) → count ≡ kept n → (if b then kept (count + 1) else count) ≡ kept (n + cond b 1 0)
both_more true count n is = rw is (kept_more n)
both_more false count n is = is ∙ ap kept (sym (add-zero n))

-- the counts with one frame more
pub counted_more :
    (kind : FrameKind) (before : ℕ) (frames : List Frame) (i : ℕ) (frame : Frame) (made : FrameKind) (counts new : FrameCounts) → i < length frames →
    frame ≡ get_or frames i frame → made ≡ kind_of before frame → new ≡ with_one made counts →
    count_of kind counts ≡ kept (number_of kind before (take i frames)) → count_of kind new ≡ kept (number_of kind before (take (i + 1) frames))
counted_more kind before frames i frame made counts new within is made_is new_is so_far =
    let n = number_of kind before (take i frames) in
    let test : Frame → Bool = λ f. same (kind_of before f) kind in
    let changed : count_of kind new ≡ (if same made kind then kept (count_of kind counts + 1) else count_of kind counts) =
    ap (λ (c : FrameCounts). count_of kind c) new_is ∙ one_counted kind made counts in
    let there : made ≡ kind_of before (get_or frames i frame) = made_is ∙ ap (λ (f : Frame). kind_of before f) is in
    let counted : kept (n + cond (same made kind) 1 0) ≡ kept (n + cond (test (get_or frames i frame)) 1 0) =
    ap (λ (k : FrameKind). kept (n + cond (same k kind) 1 0)) there in
    changed ∙ both_more (same made kind) (count_of kind counts) n so_far ∙ counted ∙ sym (ap kept (length-filter_more test frames i frame within))

-- ---- counts by kind as one record

abbrev of_eight : (hello net ltc tag msg again ack refuse : ℕ) → FrameCounts
of_eight hello net ltc tag msg again ack refuse = record { hello = hello; net = net; ltc = ltc; tag = tag; msg = msg; again = again; ack = ack; refuse = refuse }

-- equal number by number
same_eight :
    (a b c d e f g h p q r s t u v w : ℕ) → a ≡ p → b ≡ q → c ≡ r → d ≡ s → e ≡ t → f ≡ u → g ≡ v → h ≡ w →
    of_eight a b c d e f g h ≡ of_eight p q r s t u v w
same_eight a b c d e f g h p q r s t u v w ea eb ec ed ee ef eg eh = rw (ea, eb, ec, ed, ee, ef, eg, eh) refl

pub counted_as :
    (before : ℕ) (frames : List Frame) (counts : FrameCounts) → ((kind : FrameKind) → count_of kind counts ≡ kept (number_of kind before frames)) →
    counts ≡ counts_of before frames
counted_as before frames counts by =
    same_eight counts.hello counts.net counts.ltc counts.tag counts.msg counts.again counts.ack counts.refuse
    (kept (number_of Hello before frames)) (kept (number_of Net before frames)) (kept (number_of Ltc before frames)) (kept (number_of Tag before frames))
    (kept (number_of Msg before frames)) (kept (number_of Again before frames)) (kept (number_of Ack before frames)) (kept (number_of Refuse before frames))
    (by Hello) (by Net) (by Ltc) (by Tag) (by Msg) (by Again) (by Ack) (by Refuse)
