-- What a station's calls of its node come to.
use Rattle.std.proofs.Common.{◌≡◌, ◌≢◌, ℕ, ◌+◌, ◌++◌, ◌∙◌, sym, ap, Bool, true, false, List, [], ◌∷◌, map, slice_get, set, Some, Result, Ok, Err, IsOk, IfOk, OnOk, refl, arith}
use Rattle.signal.specs.declared.signal.Signal.{Signal}
use Rattle.signal.specs.declared.frame.Frame.{Frame}
use Rattle.signal.specs.declared.frame.Frame.TheVariants.{Data, Ack, Refuse}
use Rattle.link.specs.declared.arrival.Arrival.{Arrival}
use Rattle.link.specs.Image.{Image, answer_of, after_frame, after_close, ack_of}
use Rattle.protocol.specs.Refusals.{number_of}
use Rattle.protocol.specs.declared.refusal.Refusal.{Refusal}
use Rattle.protocol.specs.Outcome as outcome
use Rattle.node.specs.declared.fault.NodeFault.{NodeFault}
use Rattle.node.specs.declared.fault.NodeFault.TheVariants as fault
use Rattle.node.specs.declared.memory.Memory.{Memory}
use Rattle.node.specs.declared.reply.Reply.{Reply}
use Rattle.protocol.specs.declared.post.Post.{Post}
use Rattle.node.specs.declared.outgoing.Outgoing.{Outgoing}
use Rattle.node.specs.Numbers.{fault_number, closes}
use Rattle.node.specs.Mail.{Mail, lacks_room, bare}
use Rattle.node.specs.Core.{Core, Made, Ending, Refuses, LacksRoom, Stays, Moves, ending_of, answer_of as answer_for, node_after, mail_after, IsCall}
use Rattle.node.specs.Step.{Station, Silent, Says, Declines, answer_in, acts, takes, received, with_end, addressed}
use Rattle.node.specs.Step.{acknowledging, unsent, admits, noted, answer_with, changes, returned}
use Rattle.node.proofs.Posts.{all_posted_bare, bare_at, still_answers}

acts_as : {View : Type 0} (before after : View) (ends : List Image) (mail : Mail) (answer : Result Bool NodeFault) (reply : Reply) (ending : Ending View) →
    answer ≡ answer_for ending → after ≡ node_after before ending → mail ≡ mail_after (record { ends = ends; frames = [] }) ending →
    (answer ≡ Ok true → answer_in reply ≡ Says mail.frames) → (answer ≡ Ok false → answer_in reply ≡ Silent) →
    ((f : NodeFault) → answer ≡ Err f → answer_in reply ≡ Declines (fault_number f) []) →
    record { station = record { node = after; ends = mail.ends }; answer = answer_in reply } ≡ acts (record { node = before; ends = ends }) ending
acts_as before after ends mail answer reply (Refuses r) answers node posts done nothing refused = rw (node, refused (fault.Refused r) answers, posts) refl
acts_as before after ends mail answer reply LacksRoom answers node posts done nothing refused = rw (node, refused fault.NoRoom answers, posts) refl
acts_as before after ends mail answer reply Stays answers node posts done nothing refused = rw (node, nothing answers, posts) refl
acts_as before after ends mail answer reply (Moves v m) answers node posts done nothing refused = rw (node, done answers, posts) refl

-- what a node does by itself is the station's step
pub acts_ended : {View : Type 0} (before after : View) (ends : List Image) (mail : Mail) (answer : Result Bool NodeFault) (result : Result Reply Memory)
    (made : outcome.Outcome (Made View)) → (answer ≢ Err fault.Memory → IsCall before after (record { ends = ends; frames = [] }) mail answer made) →
    (answer ≡ Ok true → IfOk result (λ reply. answer_in reply ≡ Says mail.frames)) → (answer ≡ Ok false → IfOk result (λ reply. answer_in reply ≡ Silent)) →
    ((f : NodeFault) → answer ≡ Err f → IfOk result (λ reply. answer_in reply ≡ Declines (fault_number f) [])) → OnOk result (answer ≢ Err fault.Memory) →
    IfOk result (λ reply. record { station = record { node = after; ends = mail.ends }; answer = answer_in reply } ≡
    acts (record { node = before; ends = ends }) (ending_of (record { ends = ends; frames = [] }) made))
acts_ended before after ends mail answer (Ok reply) made call done nothing refused no_memory =
    let is = call no_memory in
    acts_as before after ends mail answer reply (ending_of (record { ends = ends; frames = [] }) made) is.answers is.node is.posts done nothing refused
acts_ended before after ends mail answer (Err memory) made call done nothing refused no_memory = tt

-- the frame of a signal in its turn
pub in_turn : (e : Image) (i n : ℕ) (signal : Signal) → answer_of e (Data i n signal) ≡ Ok Arrival.Signal → (e.incarnation ≡ i) × (n ≡ e.taken + 1)
in_turn e i n signal answer = grind arith

pub ack_in_turn : (e : Image) (i n : ℕ) (signal : Signal) → answer_of e (Data i n signal) ≡ Ok Arrival.Signal → ack_of (after_frame e (Data i n signal)) ≡ Ack i n
ack_in_turn e i n signal answer = grind (arith, in_turn e i n signal answer)

bare_if : {View : Type 0} (b : Bool) (m : Mail) (after : View) (posts : List Post) → lacks_room m.ends posts ≡ b →
    map bare (mail_after m (ending_of m (outcome.Done (record { after = after; sent = posts })))).ends ≡ map bare m.ends
bare_if true m after posts is = rw is refl
bare_if false m after posts is = rw is (all_posted_bare m posts)

-- what a node's call changes at the ends: what they keep alone
pub bare_after : {View : Type 0} (m : Mail) (made : outcome.Outcome (Made View)) → map bare (mail_after m (ending_of m made)).ends ≡ map bare m.ends
bare_after m (outcome.Refused refusal) = refl
bare_after m outcome.Nothing = refl
bare_after m (outcome.Done made) = bare_if (lacks_room m.ends made.sent) m made.after made.sent refl

-- what was in its turn before a node's posts is so after them
pub still_in_turn : {View : Type 0} (m : Mail) (made : outcome.Outcome (Made View)) (peer i n : ℕ) (signal : Signal) (x : Image) →
    ((e : Image) → slice_get m.ends peer ≡ Some e → answer_of e (Data i n signal) ≡ Ok Arrival.Signal) →
    slice_get (mail_after m (ending_of m made)).ends peer ≡ Some x → answer_of x (Data i n signal) ≡ Ok Arrival.Signal
still_in_turn m made peer i n signal x turn found =
    let b = bare_at (mail_after m (ending_of m made)).ends m.ends (bare_after m made) peer x found in
    still_answers x b.0 i n signal b.2 ∙ turn b.0 b.1

-- a signal that the node takes
pub takes_it : {View : Type 0} (s : Station View) (peer : ℕ) (e : Image) (frame : Frame) (m : Mail) (ending : Ending View) (b : Bool) →
    Ok b ≡ answer_for ending →
    record {
      station = record { node = node_after s.node ending; ends = (received peer frame (mail_after m ending)).ends };
      answer = Says (received peer frame (mail_after m ending)).frames;
    } ≡ takes s peer e frame m ending
takes_it s peer e frame m (Refuses r) b answers = let bad : ⊥ = grind arith in absurd bad
takes_it s peer e frame m LacksRoom b answers = let bad : ⊥ = grind arith in absurd bad
takes_it s peer e frame m Stays b answers = refl
takes_it s peer e frame m (Moves after mail) b answers = refl

-- a signal that the node refuses, and whose link is closed for it
pub refuses_it : {View : Type 0} (s : Station View) (peer : ℕ) (e : Image) (frame : Frame) (m : Mail) (ending : Ending View) (refusal : Refusal) →
    Err (fault.Refused refusal) ≡ answer_for ending → closes refusal ≡ true →
    record { station = with_end s peer (after_close e); answer = Declines (number_of refusal) (addressed peer (Refuse e.incarnation (number_of refusal) ∷ [])) } ≡
    takes s peer e frame m ending
refuses_it s peer e frame m (Refuses r) refusal answers closing =
    let same : refusal ≡ r = grind arith in rw (← same, closing) refl
refuses_it s peer e frame m LacksRoom refusal answers closing = let bad : ⊥ = grind arith in absurd bad
refuses_it s peer e frame m Stays refusal answers closing = let bad : ⊥ = grind arith in absurd bad
refuses_it s peer e frame m (Moves after mail) refusal answers closing = let bad : ⊥ = grind arith in absurd bad

abbrev mail_of : List Image → List Outgoing → Mail
mail_of ends frames = record { ends = ends; frames = frames }

unsent_mail : (m : Mail) → m.frames ≡ [] → m ≡ record { ends = m.ends; frames = [] }
unsent_mail m none = ap (mail_of m.ends) none

-- what a node did by itself, seen from its station
pub acts_done : {View : Type 0} (s : Station View) (node : View) (first : Mail) (after : View) (mail left : Mail) (answer : Result Bool NodeFault)
    (result : Result Reply Memory) (step : View → outcome.Outcome (Made View)) → record { node = node; ends = first.ends } ≡ s → first.frames ≡ [] →
    left ≡ record { ends = mail.ends; frames = [] } → (answer ≢ Err fault.Memory → IsCall node after first mail answer (step node)) →
    (answer ≡ Ok true → IfOk result (λ reply. answer_in reply ≡ Says mail.frames)) → (answer ≡ Ok false → IfOk result (λ reply. answer_in reply ≡ Silent)) →
    ((f : NodeFault) → answer ≡ Err f → IfOk result (λ reply. answer_in reply ≡ Declines (fault_number f) [])) → OnOk result (answer ≢ Err fault.Memory) →
    IfOk result (λ reply. record { station = record { node = after; ends = left.ends }; answer = answer_in reply } ≡ acts s (ending_of (unsent s) (step s.node)))
acts_done s node first after mail left answer result step is none posts call done nothing refused no_memory =
    rw (← is, posts) (acts_ended node after first.ends mail answer result (step node)
    (λ unless. rw (← unsent_mail first none) (call unless)) done nothing refused no_memory)

-- the acknowledgement goes out first
begun : {View : Type 0} (s : Station View) (node : View) (first one : Mail) (peer i n : ℕ) (signal : Signal) (e : Image) →
    record { node = node; ends = first.ends } ≡ s → first.frames ≡ [] → answer_of e (Data i n signal) ≡ Ok Arrival.Signal →
    one ≡ record { ends = first.ends; frames = first.frames ++ record { peer = peer; frame = Ack i n } ∷ [] } →
    one ≡ acknowledging s peer e (Data i n signal)
begun s node first one peer i n signal e is none turn begin =
    let a = ack_in_turn e i n signal turn in
    rw (begin, none, ← is, a) refl

call_there : {View : Type 0} (s : Station View) (node after : View) (ends : List Image) (one ack two : Mail) (answer : Result Bool NodeFault)
    (step : View → outcome.Outcome (Made View)) → record { node = node; ends = ends } ≡ s → one ≡ ack →
    IsCall node after one two answer (step node) → IsCall s.node after ack two answer (step s.node)
call_there s node after ends one ack two answer step is same call = rw (← is, ← same) call

-- what the node took is taken
pub take_ok : {View : Type 0} (s : Station View) (node : View) (first : Mail) (after : View) (one two three four : Mail) (frames : List Outgoing) (frame : Frame)
    (peer i n : ℕ) (signal : Signal) (e : Image) (answer : Result Bool NodeFault) (b : Bool) (step : View → outcome.Outcome (Made View)) →
    record { node = node; ends = first.ends } ≡ s → first.frames ≡ [] → answer_of e (Data i n signal) ≡ Ok Arrival.Signal →
    one ≡ record { ends = first.ends; frames = first.frames ++ record { peer = peer; frame = Ack i n } ∷ [] } →
    IsCall node after one two answer (step node) → answer ≡ Ok b → frame ≡ Data i n signal →
    three ≡ received peer frame two → frames ≡ three.frames → four ≡ record { ends = three.ends; frames = [] } →
    record { station = record { node = after; ends = four.ends }; answer = Says frames } ≡
    takes s peer e (Data i n signal) (acknowledging s peer e (Data i n signal)) (ending_of (acknowledging s peer e (Data i n signal)) (step s.node))
take_ok s node first after one two three four frames frame peer i n signal e answer b step is none turn begin call ok is_data receive took left =
    let same = begun s node first one peer i n signal e is none turn begin in
    let there = call_there s node after first.ends one (acknowledging s peer e (Data i n signal)) two answer step is same call in
    rw (left, took, receive, is_data, there.posts, there.node)
    (takes_it s peer e (Data i n signal) (acknowledging s peer e (Data i n signal)) (ending_of (acknowledging s peer e (Data i n signal)) (step s.node)) b
    (sym ok ∙ there.answers))

-- the frame can be taken in after the node's posts
pub receivable : {View : Type 0} (s : Station View) (node : View) (first : Mail) (after : View) (one two : Mail) (frame : Frame)
    (peer i n : ℕ) (signal : Signal) (x : Image) (answer : Result Bool NodeFault) (made : outcome.Outcome (Made View)) →
    record { node = node; ends = first.ends } ≡ s → ((e : Image) → slice_get s.ends peer ≡ Some e → answer_of e (Data i n signal) ≡ Ok Arrival.Signal) →
    one ≡ record { ends = first.ends; frames = first.frames ++ record { peer = peer; frame = Ack i n } ∷ [] } →
    IsCall node after one two answer made → frame ≡ Data i n signal → slice_get two.ends peer ≡ Some x → IsOk (answer_of x frame)
receivable s node first after one two frame peer i n signal x answer made is turn begin call is_data found =
    let ends : one.ends ≡ s.ends = ap (λ m. m.ends) begin ∙ ap (λ s. s.ends) is in
    let posts = call.posts in
    let there : slice_get (mail_after one (ending_of one made)).ends peer ≡ Some x = ap (λ m. slice_get m.ends peer) (sym posts) ∙ found in
    let still = still_in_turn one made peer i n signal x (λ e at. turn e (ap (λ l. slice_get l peer) (sym ends) ∙ at)) there in
    rw (is_data, still) refl

refused_stays : {View : Type 0} (v : View) (m : Mail) (ending : Ending View) (f : NodeFault) → Err f ≡ answer_for ending →
    (node_after v ending ≡ v) × (mail_after m ending ≡ m)
refused_stays v m (Refuses r) f answers = (refl, refl)
refused_stays v m LacksRoom f answers = (refl, refl)
refused_stays v m Stays f answers = (refl, refl)
refused_stays v m (Moves after mail) f answers = let bad : ⊥ = grind arith in absurd bad

-- a signal whose refusal closes the link
pub take_refused : {View : Type 0} (s : Station View) (node : View) (first : Mail) (after : View) (one two three four five : Mail) (frames : List Outgoing)
    (peer i n number : ℕ) (signal : Signal) (e : Image) (answer : Result Bool NodeFault) (refusal : Refusal) (step : View → outcome.Outcome (Made View)) →
    record { node = node; ends = first.ends } ≡ s → first.frames ≡ [] → answer_of e (Data i n signal) ≡ Ok Arrival.Signal → slice_get s.ends peer ≡ Some e →
    one ≡ record { ends = first.ends; frames = first.frames ++ record { peer = peer; frame = Ack i n } ∷ [] } →
    IsCall node after one two answer (step node) → answer ≡ Err (fault.Refused refusal) → closes refusal ≡ true → number ≡ number_of refusal →
    three.frames ≡ two.frames → ((x : Image) → slice_get two.ends peer ≡ Some x → three.ends ≡ set two.ends peer (after_close x)) →
    four ≡ record { ends = three.ends; frames = set three.frames 0 (record { peer = peer; frame = Refuse i number }) } →
    frames ≡ four.frames → five ≡ record { ends = four.ends; frames = [] } →
    record { station = record { node = after; ends = five.ends }; answer = Declines number frames } ≡
    takes s peer e (Data i n signal) (acknowledging s peer e (Data i n signal)) (ending_of (acknowledging s peer e (Data i n signal)) (step s.node))
take_refused s node first after one two three four five frames peer i n number signal e answer refusal step is none turn found begin call err closing told kept closed replaced took left =
    let same = begun s node first one peer i n signal e is none turn begin in
    let there = call_there s node after first.ends one (acknowledging s peer e (Data i n signal)) two answer step is same call in
    let answers = sym err ∙ there.answers in
    let stays = refused_stays s.node (acknowledging s peer e (Data i n signal)) (ending_of (acknowledging s peer e (Data i n signal)) (step s.node)) (fault.Refused refusal) answers in
    let node_is : after ≡ s.node = there.node ∙ stays.0 in
    let mail_is : two ≡ acknowledging s peer e (Data i n signal) = there.posts ∙ stays.1 in
    let at : slice_get two.ends peer ≡ Some e = ap (λ m. slice_get m.ends peer) mail_is ∙ found in
    let ends : five.ends ≡ set s.ends peer (after_close e) =
    ap (λ m. m.ends) left ∙ (ap (λ m. m.ends) replaced ∙ (closed e at ∙ ap (λ m. set m.ends peer (after_close e)) mail_is)) in
    let own = (in_turn e i n signal turn).0 in
    let sent : frames ≡ addressed peer (Refuse e.incarnation (number_of refusal) ∷ []) = rw (took, replaced, kept, mail_is, told, own) refl in
    rw (node_is, ends, sent, told)
    (refuses_it s peer e (Data i n signal) (acknowledging s peer e (Data i n signal)) (ending_of (acknowledging s peer e (Data i n signal)) (step s.node)) refusal answers closing)

lets_noted : {View Row : Type 0} (core : Core View Row) (s : Station View) (peer : ℕ) (e : Image) (frame : Frame) (arrival : Arrival) →
    ((i n : ℕ) (signal : Signal) → frame ≡ Data i n signal → arrival ≡ Arrival.Signal → ⊥) → admits core s peer e frame arrival ≡ noted s peer e frame
lets_noted core s peer e (Data i n signal) Arrival.Signal other = absurd (other i n signal refl refl)
lets_noted core s peer e frame arrival other = refl

-- a frame that the end takes in by itself, seen from its station
pub noted_ended : {View Row : Type 0} (core : Core View Row) (s : Station View) (node : View) (first left : Mail) (peer : ℕ) (e : Image) (frame : Frame) (arrival : Arrival)
    (result : Result Reply Memory) → record { node = node; ends = first.ends } ≡ s → slice_get s.ends peer ≡ Some e →
    ((i n : ℕ) (signal : Signal) → frame ≡ Data i n signal → arrival ≡ Arrival.Signal → ⊥) →
    ((x : Image) → slice_get first.ends peer ≡ Some x →
    IfOk result (λ reply. answer_in reply ≡ answer_with (changes x frame) (addressed peer (returned (after_frame x frame) frame)))) →
    OnOk result (left ≡ received peer frame first) →
    IfOk result (λ reply. record { station = record { node = node; ends = left.ends }; answer = answer_in reply } ≡ admits core s peer e frame arrival)
noted_ended core s node first left peer e frame arrival (Ok reply) is found other told received_is =
    let at : slice_get first.ends peer ≡ Some e = ap (λ s. slice_get s.ends peer) is ∙ found in
    let here : node ≡ s.node = ap (λ s. s.node) is in
    let same : first.ends ≡ s.ends = ap (λ s. s.ends) is in
    let ends : left.ends ≡ set s.ends peer (after_frame e frame) = rw (received_is, at, same) refl in
    rw (lets_noted core s peer e frame arrival other, told e at, ends, here) refl
noted_ended core s node first left peer e frame arrival (Err memory) is found other told received_is = tt
