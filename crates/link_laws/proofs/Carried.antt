-- What one side offered and the other took, as either does something.
use Rattle.std.proofs.Common.{◌≡◌, ℕ, zero, suc, ◌+◌, ◌-◌, ◌≤◌, Bool, true, false, List, [], ◌∷◌, ◌++◌, length, take, drop, max, refl, sym, ap, subst, ◌∙◌, arith, None, Some}
use Rattle.std.specs.Prelude.{slice_get, if◌then◌else◌}
use Rattle.std.proofs.lemmas.List.{drop-append-le}
use Rattle.network_laws.proofs.Lists.{each_more}
use Rattle.signal.specs.declared.signal.Signal.{Signal}
use Rattle.signal.specs.declared.frame.Frame.{Frame}
use Rattle.signal.specs.declared.frame.Frame.TheVariants.{Hello, Data, Ack, Refuse}
use Rattle.signal.specs.Batch.{numbered}
use Rattle.link.specs.Image.{Image, last_number, acknowledge, after_frame, after_close, ack_of, hello_by, hello_of, resent_by}
use Rattle.link_laws.specs.Direction.{offered_in, IsGenuine}
use Rattle.link_laws.specs.Link.{Side, says, offers, notes, takes, greeting}
use Rattle.link_laws.proofs.Places.{get_below, take_more, take_next, drop_twice, length_of_rest}
use Rattle.link_laws.proofs.Ways.{AreOld, AreGenuine, offers_more, offers_same, way_offers, way_repeats, resent_genuine, resent_old}

-- what a side keeps was offered and isn't acknowledged; what is acknowledged the other took, and that was offered; and its frames say
-- no more than this
pub record IsCarried (i : ℕ) (kept : List Signal) (acknowledged told : ℕ) (sent : List Frame) (taken : ℕ) (took : List Signal) : Type 0 where
  pub kept_is : kept ≡ drop acknowledged (offered_in i sent)
  pub acknowledged_taken : acknowledged ≤ taken
  pub taken_offered : taken ≤ length (offered_in i sent)
  pub took_is : took ≡ take taken (offered_in i sent)
  pub genuine : AreGenuine i (offered_in i sent) told sent

-- from one side to the other
abbrev pub Carried : ℕ → Side → Side → Type 0
Carried i s r = IsCarried i s.end.kept s.end.acknowledged s.end.taken s.sent r.end.taken r.took

-- both sides of a link in this incarnation
pub record IsLinked (i : ℕ) (s r : Side) : Type 0 where
  pub here : s.end.incarnation ≡ i
  pub there : r.end.incarnation ≡ i
  pub out : Carried i s r
  pub back : Carried i r s

pub linked_back : (i : ℕ) (s r : Side) → IsLinked i s r → IsLinked i r s
linked_back i s r l = record { here = l.there; there = l.here; out = l.back; back = l.out }

-- more is told
more_told : (i : ℕ) (kept : List Signal) (acknowledged told more : ℕ) (sent : List Frame) (taken : ℕ) (took : List Signal) → told ≤ more → IsCarried i kept acknowledged told sent taken took → IsCarried i kept acknowledged more sent taken took
more_told i kept acknowledged told more sent taken took l c =
    record {
      kept_is = c.kept_is;
      acknowledged_taken = c.acknowledged_taken;
      taken_offered = c.taken_offered;
      took_is = c.took_is;
      genuine = each_more (IsGenuine i (offered_in i sent) told) (IsGenuine i (offered_in i sent) more) (λ f h. tell_more (offered_in i sent) f h) sent c.genuine;
    }
  where
    tell_more : (offered : List Signal) (f : Frame) → IsGenuine i offered told f → IsGenuine i offered more f
    tell_more offered (Hello hello) h = λ e. (let m = h e in omega arith)
    tell_more offered (Data k n signal) h = h
    tell_more offered (Ack k n) h = λ e. (let m = h e in omega arith)
    tell_more offered (Refuse k n) h = tt

-- frames that bring no signal
carried_says : (i : ℕ) (kept : List Signal) (acknowledged told : ℕ) (sent more : List Frame) (taken : ℕ) (took : List Signal) → AreOld i (length (offered_in i sent)) more → AreGenuine i (offered_in i sent) told more → IsCarried i kept acknowledged told sent taken took → IsCarried i kept acknowledged told (sent ++ more) taken took
carried_says i kept acknowledged told sent more taken took old genuine c =
    let same : offered_in i (sent ++ more) ≡ offered_in i sent = offers_same i sent more old in
    let P : List Signal → Type 0 = λ x. kept ≡ drop acknowledged x in
    let Q : List Signal → Type 0 = λ x. taken ≤ length x in
    let R : List Signal → Type 0 = λ x. took ≡ take taken x in
    let S : List Signal → Type 0 = λ x. AreGenuine i x told (sent ++ more) in
    record {
      kept_is = subst P (sym same) c.kept_is;
      acknowledged_taken = c.acknowledged_taken;
      taken_offered = subst Q (sym same) c.taken_offered;
      took_is = subst R (sym same) c.took_is;
      genuine = subst S (sym same) (way_repeats i told told sent more (omega arith) c.genuine genuine);
    }

-- signals under the next numbers
carried_offers : (i : ℕ) (kept : List Signal) (acknowledged told : ℕ) (sent : List Frame) (taken : ℕ) (took signals : List Signal) → IsCarried i kept acknowledged told sent taken took → IsCarried i (kept ++ signals) acknowledged told (sent ++ numbered i (acknowledged + length kept + 1) signals) taken took
carried_offers i kept acknowledged told sent taken took signals c =
    let offered = offered_in i sent in
    let a = c.acknowledged_taken in
    let b = c.taken_offered in
    let rest = length_of_rest acknowledged (offered_in i sent) (omega arith) in
    let size : length kept ≡ length (drop acknowledged (offered_in i sent)) = ap length c.kept_is in
    let next : acknowledged + length kept + 1 ≡ length (offered_in i sent) + 1 = omega arith in
    let N : ℕ → Type 0 = λ n. IsCarried i (kept ++ signals) acknowledged told (sent ++ numbered i n signals) taken took in
    let more = sent ++ numbered i (length (offered_in i sent) + 1) signals in
    let grows : offered_in i more ≡ offered ++ signals = offers_more i sent signals in
    let P : List Signal → Type 0 = λ x. kept ++ signals ≡ drop acknowledged x in
    let Q : List Signal → Type 0 = λ x. taken ≤ length x in
    let R : List Signal → Type 0 = λ x. took ≡ take taken x in
    let S : List Signal → Type 0 = λ x. AreGenuine i x told more in
    let within : taken ≤ length (offered_in i sent ++ signals) = longer (offered_in i sent) signals taken b in
    subst N (sym next)
    (record {
      kept_is = subst P (sym grows) (ap (λ (x : List Signal). x ++ signals) c.kept_is ∙ sym (drop-append-le acknowledged offered signals (omega arith)));
      acknowledged_taken = c.acknowledged_taken;
      taken_offered = subst Q (sym grows) within;
      took_is = subst R (sym grows) (c.took_is ∙ sym (take_more taken offered signals b));
      genuine = subst S (sym grows) (way_offers i told told sent signals (omega arith) c.genuine);
    })
  where
    longer : (xs ys : List Signal) (k : ℕ) → k ≤ length xs → k ≤ length (xs ++ ys)
    longer [] ys k l = omega arith
    longer (x ∷ xs) ys zero l = omega arith
    longer (x ∷ xs) ys (suc k) l = let m = longer xs ys k (omega arith) in omega arith

-- the other side tells how much it took
carried_acknowledges : (i : ℕ) (kept : List Signal) (acknowledged told : ℕ) (sent : List Frame) (taken : ℕ) (took : List Signal) (n : ℕ) → n ≤ taken → IsCarried i kept acknowledged told sent taken took → IsCarried i (drop (n - acknowledged) kept) (max acknowledged n) told sent taken took
carried_acknowledges i kept acknowledged told sent taken took n l c =
    let a = c.acknowledged_taken in
    record {
      kept_is = ap (drop (n - acknowledged)) c.kept_is ∙ drop_twice acknowledged (n - acknowledged) (offered_in i sent) (max acknowledged n) (omega arith);
      acknowledged_taken = omega arith;
      taken_offered = c.taken_offered;
      took_is = c.took_is;
      genuine = c.genuine;
    }

-- the other side takes the signal in its turn
carried_takes : (i : ℕ) (kept : List Signal) (acknowledged told : ℕ) (sent : List Frame) (taken : ℕ) (took : List Signal) (signal : Signal) (n : ℕ) → n ≡ taken + 1 → slice_get (offered_in i sent) taken ≡ Some signal → IsCarried i kept acknowledged told sent taken took → IsCarried i kept acknowledged told sent (max taken n) (took ++ signal ∷ [])
carried_takes i kept acknowledged told sent taken took signal n e at c =
    let a = c.acknowledged_taken in
    let below = get_below (offered_in i sent) taken signal at in
    let next : max taken n ≡ suc taken = omega arith in
    let P : ℕ → Type 0 = λ x. took ++ signal ∷ [] ≡ take x (offered_in i sent) in
    record {
      kept_is = c.kept_is;
      acknowledged_taken = omega arith;
      taken_offered = omega arith;
      took_is = subst P (sym next) (ap (λ (x : List Signal). x ++ signal ∷ []) c.took_is ∙ sym (take_next taken (offered_in i sent) signal at));
      genuine = c.genuine;
    }

-- the other side hears of a signal again
carried_repeats : (i : ℕ) (kept : List Signal) (acknowledged told : ℕ) (sent : List Frame) (taken : ℕ) (took : List Signal) (n : ℕ) → n ≤ taken → IsCarried i kept acknowledged told sent taken took → IsCarried i kept acknowledged told sent (max taken n) took
carried_repeats i kept acknowledged told sent taken took n l c =
    let same : max taken n ≡ taken = omega arith in
    let P : ℕ → Type 0 = λ x. IsCarried i kept acknowledged told sent x took in
    subst P (sym same) c

-- the same of sides
pub linked_says : (i : ℕ) (s r : Side) (more : List Frame) → AreOld i (length (offered_in i s.sent)) more → AreGenuine i (offered_in i s.sent) s.end.taken more → IsLinked i s r → IsLinked i (says s more) r
linked_says i s r more old genuine l =
    record { here = l.here; there = l.there; out = carried_says i s.end.kept s.end.acknowledged s.end.taken s.sent more r.end.taken r.took old genuine l.out; back = l.back }

offers_if : (i : ℕ) (s r : Side) (signals : List Signal) (b : Bool) → IsLinked i s r → IsLinked i (if b then s else record { end = record s.end { kept = s.end.kept ++ signals }; sent = s.sent ++ numbered s.end.incarnation (last_number s.end + 1) signals; took = s.took }) r
offers_if i s r signals true l = l
offers_if i s r signals false l =
    let more = carried_offers i s.end.kept s.end.acknowledged s.end.taken s.sent r.end.taken r.took signals l.out in
    let P : ℕ → Type 0 = λ x. IsCarried i (s.end.kept ++ signals) s.end.acknowledged s.end.taken (s.sent ++ numbered x (last_number s.end + 1) signals) r.end.taken r.took in
    record { here = l.here; there = l.there; out = subst P (sym l.here) more; back = l.back }

pub linked_offers : (i : ℕ) (s r : Side) (signals : List Signal) → IsLinked i s r → IsLinked i (offers s signals) r
linked_offers i s r signals l = offers_if i s r signals s.end.closed l

pub linked_acknowledges : (i : ℕ) (s r : Side) (n : ℕ) → n ≤ r.end.taken → IsLinked i s r → IsLinked i (record s { end = acknowledge s.end n }) r
linked_acknowledges i s r n h l =
    record { here = l.here; there = l.there; out = carried_acknowledges i s.end.kept s.end.acknowledged s.end.taken s.sent r.end.taken r.took n h l.out; back = l.back }

pub linked_closes : (i : ℕ) (s r : Side) → IsLinked i s r → IsLinked i (record s { end = after_close s.end }) r
linked_closes i s r l = record { here = l.here; there = l.there; out = l.out; back = l.back }

-- an acknowledgement of what was taken
ack_genuine : (i : ℕ) (offered : List Signal) (e : Image) → AreGenuine i offered e.taken (ack_of e ∷ [])
ack_genuine i offered e = ((λ same. omega arith), tt)

pub linked_takes : (i : ℕ) (s r : Side) (k n : ℕ) (signal : Signal) → n ≡ s.end.taken + 1 → slice_get (offered_in i r.sent) s.end.taken ≡ Some signal → IsLinked i s r → IsLinked i (takes s (Data k n signal) signal) r
linked_takes i s r k n signal e at l =
    let e_after : Image = after_frame s.end (Data k n signal) in
    let told = more_told i s.end.kept s.end.acknowledged s.end.taken (max s.end.taken n) s.sent r.end.taken r.took (omega arith) l.out in
    record {
      here = l.here;
      there = l.there;
      out = carried_says i s.end.kept s.end.acknowledged (max s.end.taken n) s.sent (ack_of (after_frame s.end (Data k n signal)) ∷ []) r.end.taken r.took (refl, tt)
          (ack_genuine i (offered_in i s.sent) (after_frame s.end (Data k n signal))) told;
      back = carried_takes i r.end.kept r.end.acknowledged r.end.taken r.sent s.end.taken s.took signal n e at l.back;
    }

-- a repeated signal is acknowledged again
pub linked_repeats : (i : ℕ) (s r : Side) (k n : ℕ) (signal : Signal) → n ≤ s.end.taken → IsLinked i s r → IsLinked i (says (notes s (Data k n signal)) (ack_of s.end ∷ [])) r
linked_repeats i s r k n signal h l =
    let told = more_told i s.end.kept s.end.acknowledged s.end.taken (max s.end.taken n) s.sent r.end.taken r.took (omega arith) l.out in
    record {
      here = l.here;
      there = l.there;
      out = carried_says i s.end.kept s.end.acknowledged (max s.end.taken n) s.sent (ack_of s.end ∷ []) r.end.taken r.took (refl, tt)
          ((λ same. omega arith), tt) told;
      back = carried_repeats i r.end.kept r.end.acknowledged r.end.taken r.sent s.end.taken s.took n h l.back;
    }

-- all that is kept is sent again
resends_if : (i : ℕ) (s r : Side) (b : Bool) → IsLinked i s r → IsLinked i (says s (if b then [] else numbered s.end.incarnation (s.end.acknowledged + 1) s.end.kept)) r
resends_if i s r true l = linked_says i s r [] tt tt l
resends_if i s r false l =
    let a = l.out.acknowledged_taken in
    let b = l.out.taken_offered in
    let offered = offered_in i s.sent in
    let again = numbered i (s.end.acknowledged + 1) (drop s.end.acknowledged (offered_in i s.sent)) in
    let P : ℕ → Type 0 = λ x. IsLinked i (says s (numbered x (s.end.acknowledged + 1) s.end.kept)) r in
    let Q : List Signal → Type 0 = λ x. IsLinked i (says s (numbered i (s.end.acknowledged + 1) x)) r in
    subst P (sym l.here)
    (subst Q (sym l.out.kept_is)
    (linked_says i s r again (resent_old i s.end.acknowledged offered (omega arith)) (resent_genuine i s.end.acknowledged s.end.taken offered (omega arith)) l))

pub linked_resends : (i : ℕ) (s r : Side) → IsLinked i s r → IsLinked i (says s (resent_by s.end)) r
linked_resends i s r l = resends_if i s r s.end.closed l

-- the other side is greeted
greets_if : (i : ℕ) (s r : Side) (b : Bool) → IsLinked i s r → IsLinked i (says s (greeting (if b then None else Some (hello_by s.end)))) r
greets_if i s r true l = linked_says i s r [] tt tt l
greets_if i s r false l = linked_says i s r (hello_by s.end ∷ []) (refl, tt) ((λ same. omega arith), tt) l

pub linked_greets : (i : ℕ) (s r : Side) → IsLinked i s r → IsLinked i (says s (greeting (hello_of s.end))) r
linked_greets i s r l = greets_if i s r s.end.closed l
