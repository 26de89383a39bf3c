-- The words of a step's line, and what they ask for.
use Rattle.std.proofs.Common.{◌≡◌, ℕ, ◌<◌, ◌^◌, true, false, List, [], ◌∷◌, ◌++◌, codes, refl, ap, ◌∙◌, arith}
use Rattle.std.specs.Prelude.{Some}
use Rattle.std.specs.Option.{option_and_then}
use Rattle.std.specs.Fmt.{decimal}
use Rattle.std.specs.List.{list_all}
use Rattle.std.specs.Str.{all_ascii_digits}
use Rattle.std.specs.Str.Parse.{digits_value}
use Rattle.std.proofs.lemmas.Bool.{lt-ltb}
use Rattle.std.proofs.lemmas.Fmt.{decimal_is_IsNumeral, digits_decimal}
use Rattle.std.proofs.lemmas.List.Folds.{list_all-append}
use Rattle.std.proofs.lemmas.List.Splits.{slice_split_none, slice_split_at}
use Rattle.std.proofs.lemmas.Str.Parse.{numerals_by_value, tells_all_ascii_digits}
use Rattle.plan.specs.declared.draft.Draft.{Draft}
use Rattle.plan.specs.Federation.{federate_count}
use Rattle.world_stations.specs.declared.dir.Dir.{Dir}
use Rattle.world_stations.specs.declared.dir.Dir.TheVariants.{Up, Down}
use Rattle.world_stations.specs.declared.step.Step.{Step}
use Rattle.world_stations.specs.declared.step.Step.TheVariants.{Deliver, Resend, Reconnect, Announce, Advance, Forget}
use Rattle.world_stations.specs.World.{federate_of}
use Rattle.files_text.specs.PlanText.{federate_name}
use Rattle.files_script.specs.declared.command.Command.TheVariants.{Make}
use Rattle.files_script.specs.Words.{is_space, words_of, frame_number, direction, direction_named, of_federate, of_direction, of_frame, command_of}
use Rattle.files_script.specs.Scripts.{is_within_line, is_idle, IsDirOf, IsStepOf}
use Rattle.files_record.specs.StepText.{way_of, step_text}
use Rattle.files_record.specs.ReadAgain.{IsNamed}
use Rattle.files_record.proofs.Plain.{IsPlain, digits_plain}
use Rattle.files_record.proofs.Named.{federate_found, federate_plain}

-- a text without a space is one word, and ends at a space
last_word : (word : List ℕ) → IsPlain word → words_of word ≡ word ∷ []
last_word word plain = slice_split_none is_space word plain.one_word

first_word : (word rest : List ℕ) → IsPlain word → words_of (word ++ 32 ∷ rest) ≡ word ∷ words_of rest
first_word word rest plain = slice_split_at is_space word 32 rest plain.one_word refl

-- numbers
number_plain : (k : ℕ) → k < 2 ^ 32 → IsPlain (decimal k)
number_plain k few = digits_plain (decimal k) (decimal_is_IsNumeral k (omega arith)).0.1

number_read : (word : List ℕ) (k : ℕ) → all_ascii_digits word ≡ true → digits_value 10 word ≡ k → 0 < k → k < 2 ^ 32 → frame_number word ≡ Some k
number_read word k digits value some few = rw (digits, value, lt-ltb 0 k some, lt-ltb k (2 ^ 32) few) refl

number_again : (k : ℕ) → 0 < k → k < 2 ^ 32 → frame_number (decimal k) ≡ Some k
number_again k some few =
    let range : k < 2 ^ 64 = omega arith in
    number_read (decimal k) k
    (digits_decimal (numerals_by_value (λ (ds : List ℕ). all_ascii_digits ds ≡ true) tells_all_ascii_digits) k range)
    (decimal_is_IsNumeral k range).1 some few

-- directions
direction_read : (d : Draft) (dir : Dir) → IsNamed d → IsDirOf d dir → direction_named d (way_of dir) (federate_name d (federate_of dir)) ≡ Some dir
direction_read d (Up j) named there = ap (option_and_then (direction (codes "up"))) (federate_found d j named there)
direction_read d (Down j) named there = ap (option_and_then (direction (codes "down"))) (federate_found d j named there)

-- words behind the one of a direction
behind_way : (dir : Dir) (rest : List ℕ) → words_of (way_of dir ++ 32 ∷ rest) ≡ way_of dir ∷ words_of rest
behind_way (Up j) rest = refl
behind_way (Down j) rest = refl

module _ (d : Draft) (named : IsNamed d) where
  -- what words ask for that are a form and a federate
  of_one : (form : List ℕ) (j : ℕ) → j < federate_count d → command_of d (form ∷ federate_name d j ∷ []) ≡ of_federate form j
  of_one form j there = ap (option_and_then (of_federate form)) (federate_found d j named there)

  -- a form and a direction
  of_link : (form : List ℕ) (dir : Dir) → IsDirOf d dir → command_of d (form ∷ way_of dir ∷ federate_name d (federate_of dir) ∷ []) ≡ of_direction form dir
  of_link form dir there = ap (option_and_then (of_direction form)) (direction_read d dir named there)

  -- a form, a direction and a frame
  of_number : (form : List ℕ) (dir : Dir) (k : ℕ) → IsDirOf d dir → 0 < k → k < 2 ^ 32 →
      command_of d (form ∷ way_of dir ∷ federate_name d (federate_of dir) ∷ decimal k ∷ []) ≡ of_frame form dir k
  of_number form dir k there some few =
      ap (option_and_then (λ (way : Dir). option_and_then (of_frame form way) (frame_number (decimal k)))) (direction_read d dir named there)
      ∙ ap (option_and_then (of_frame form dir)) (number_again k some few)

  -- the words behind a form
  link_words : (dir : Dir) → IsDirOf d dir → words_of (way_of dir ++ (codes " " ++ federate_name d (federate_of dir))) ≡ way_of dir ∷ federate_name d (federate_of dir) ∷ []
  link_words dir there =
      behind_way dir (federate_name d (federate_of dir))
      ∙ ap (λ ws. way_of dir ∷ ws) (last_word (federate_name d (federate_of dir)) (federate_plain d (federate_of dir) named there))

  frame_words : (dir : Dir) (k : ℕ) → IsDirOf d dir → k < 2 ^ 32 →
      words_of (way_of dir ++ (codes " " ++ (federate_name d (federate_of dir) ++ (codes " " ++ decimal k)))) ≡ way_of dir ∷ federate_name d (federate_of dir) ∷ decimal k ∷ []
  frame_words dir k there few =
      let name : List ℕ = federate_name d (federate_of dir) in
      behind_way dir (name ++ (codes " " ++ decimal k))
      ∙ ap (λ ws. way_of dir ∷ ws)
      (first_word name (decimal k) (federate_plain d (federate_of dir) named there) ∙ ap (λ ws. name ∷ ws) (last_word (decimal k) (number_plain k few)))

  -- a step's line asks for that step
  pub asks_for : (step : Step) → IsStepOf d step → command_of d (words_of (step_text d step)) ≡ Some (Make step)
  asks_for (Deliver dir k) is =
      ap (λ ws. command_of d (codes "deliver" ∷ ws)) (frame_words dir k is.0 is.2) ∙ of_number (codes "deliver") dir k is.0 is.1 is.2
  asks_for (Resend dir) is = ap (λ ws. command_of d (codes "resend" ∷ ws)) (link_words dir is) ∙ of_link (codes "resend") dir is
  asks_for (Reconnect dir) is = ap (λ ws. command_of d (codes "reconnect" ∷ ws)) (link_words dir is) ∙ of_link (codes "reconnect") dir is
  asks_for (Announce j) is =
      ap (λ ws. command_of d (codes "announce" ∷ ws)) (last_word (federate_name d j) (federate_plain d j named is)) ∙ of_one (codes "announce") j is
  asks_for (Advance j) is =
      ap (λ ws. command_of d (codes "advance" ∷ ws)) (last_word (federate_name d j) (federate_plain d j named is)) ∙ of_one (codes "advance") j is
  asks_for (Forget j) is =
      ap (λ ws. command_of d (codes "forget" ∷ ws)) (last_word (federate_name d j) (federate_plain d j named is)) ∙ of_one (codes "forget") j is

  -- and is one line
  frame_within : (name number : List ℕ) → list_all is_within_line name ≡ true → list_all is_within_line number ≡ true →
      list_all is_within_line (name ++ 32 ∷ number) ≡ true
  frame_within name number one other = list_all-append is_within_line name (32 ∷ number) ∙ rw (one, other) refl

  pub is_one_line : (step : Step) → IsStepOf d step → list_all is_within_line (step_text d step) ≡ true
  is_one_line (Deliver (Up j) k) is =
      frame_within (federate_name d j) (decimal k) (federate_plain d j named is.0).one_line (number_plain k is.2).one_line
  is_one_line (Deliver (Down j) k) is =
      frame_within (federate_name d j) (decimal k) (federate_plain d j named is.0).one_line (number_plain k is.2).one_line
  is_one_line (Resend (Up j)) is = (federate_plain d j named is).one_line
  is_one_line (Resend (Down j)) is = (federate_plain d j named is).one_line
  is_one_line (Reconnect (Up j)) is = (federate_plain d j named is).one_line
  is_one_line (Reconnect (Down j)) is = (federate_plain d j named is).one_line
  is_one_line (Announce j) is = (federate_plain d j named is).one_line
  is_one_line (Advance j) is = (federate_plain d j named is).one_line
  is_one_line (Forget j) is = (federate_plain d j named is).one_line

-- that does something
pub is_busy : (d : Draft) (step : Step) → is_idle (step_text d step) ≡ false
is_busy d (Deliver dir k) = refl
is_busy d (Resend dir) = refl
is_busy d (Reconnect dir) = refl
is_busy d (Announce j) = refl
is_busy d (Advance j) = refl
is_busy d (Forget j) = refl
