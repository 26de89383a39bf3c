-- Parts that are read one after the other, as a loop does: what was read, and what is still read.
use Rattle.std.proofs.Common.{◌≡◌, ℕ, suc, ◌+◌, ◌-◌, ◌<◌, ◌≤◌, List, [], ◌∷◌, ◌++◌, Ok, Err, refl, sym, ap, ◌∙◌, append_assoc, arith}
use Rattle.std.specs.List.{flat_map, AllByRecursion}
use Rattle.std.proofs.lemmas.List.{append-nil, length-append}
use Rattle.std.proofs.lemmas.List.Concat.{flat_map-append}
use Rattle.files_reports.specs.declared.read_fault.ReadFault.{ReadFault}
use Rattle.files_reports.specs.declared.read_fault.ReadFault.TheVariants as faults
use Rattle.files_reports.specs.Said.{AreSoMany}
use Rattle.files_reports.specs.Reading.{Part, ◌>>=◌, many, IsTaken, Fails}

-- these, and behind them what is still read
abbrev pub behind : {X : Type 0} → List X → Part (List X) → Part (List X)
behind front read = read >>= λ others. Ok (front ++ others.0, others.1)

-- this many of all were read so far, and this is left
pub record IsOnItsWay {X : Type 0} (part : List ℕ → Part X) (spelling : X → List ℕ) (Is : X → Type 0) (count : ℕ) (bytes : List ℕ) (so_far : ℕ) (front : List X) (rest : List ℕ) : Type 0 where
  pub reads : behind front (many part (count - so_far) rest) ≡ many part count bytes
  pub taken : IsTaken (flat_map spelling) (AreSoMany Is so_far) bytes front rest

regrouped : {X : Type 0} (front : List X) (x : X) (read : Part (List X)) → behind front (read >>= λ others. Ok (x ∷ others.0, others.1)) ≡ behind (front ++ x ∷ []) read
regrouped {X = X} front x (Ok others) = ap (λ (xs : List X). Ok (xs, others.1)) (simp append_assoc)
regrouped {X = X} front x (Err fault) = refl

nothing_before : {X : Type 0} (read : Part (List X)) → behind [] read ≡ read
nothing_before (Ok others) = refl
nothing_before (Err fault) = refl

pub starts : {X : Type 0} (part : List ℕ → Part X) (spelling : X → List ℕ) (Is : X → Type 0) (count : ℕ) (bytes : List ℕ) → IsOnItsWay part spelling Is count bytes 0 [] bytes
starts part spelling Is count bytes =
    let all : count - 0 ≡ count = omega arith in
    record {
      reads = ap (λ (n : ℕ). behind [] (many part n bytes)) all ∙ nothing_before (many part count bytes);
      taken = record { is_one = (refl, tt); begins = refl };
    }

-- what holds of each of them and of one more
pub each_and_one : {X : Type 0} (Is : X → Type 0) (xs : List X) (x : X) → AllByRecursion Is xs → Is x → AllByRecursion Is (xs ++ x ∷ [])
each_and_one Is [] x h k = (k, tt)
each_and_one Is (y ∷ xs) x h k = (h.0, each_and_one Is xs x h.1 k)

-- one more
pub step : {X : Type 0} (part : List ℕ → Part X) (spelling : X → List ℕ) (Is : X → Type 0) (count : ℕ) (bytes : List ℕ) (so_far : ℕ) (front : List X) (rest : List ℕ) (x : X) (after : List ℕ)
    → so_far < count → part rest ≡ Ok (x, after) → IsTaken spelling Is rest x after → IsOnItsWay part spelling Is count bytes so_far front rest
    → IsOnItsWay part spelling Is count bytes (so_far + 1) (front ++ x ∷ []) after
unfolding many
step part spelling Is count bytes so_far front rest x after less e one h =
    let left : count - so_far ≡ suc (count - (so_far + 1)) = omega arith in
    let same : behind front (many part (count - so_far) rest) ≡ behind (front ++ x ∷ []) (many part (count - (so_far + 1)) after) =
    rw (left, e) (regrouped front x (many part (count - (so_far + 1)) after)) in
    let all : flat_map spelling (front ++ x ∷ []) ≡ flat_map spelling front ++ spelling x =
    flat_map-append spelling front (x ∷ []) ∙ ap (λ (b : List ℕ). flat_map spelling front ++ b) (append-nil (spelling x)) in
    record {
      reads = sym same ∙ h.reads;
      taken = record {
        is_one = (omega (arith, length-append front (x ∷ []), h.taken.is_one.0), each_and_one Is front x h.taken.is_one.1 one.is_one);
        begins = h.taken.begins ∙ ap (λ (b : List ℕ). flat_map spelling front ++ b) one.begins ∙ sym (append_assoc (flat_map spelling front) (spelling x) after)
            ∙ ap (λ (b : List ℕ). b ++ after) (sym all);
      };
    }

-- a fault on the way is that of all
pub stops : {X : Type 0} (part : List ℕ → Part X) (spelling : X → List ℕ) (Is : X → Type 0) (count : ℕ) (bytes : List ℕ) (so_far : ℕ) (front : List X) (rest : List ℕ) (fault : ReadFault)
    → so_far < count → Fails fault (part rest) → IsOnItsWay part spelling Is count bytes so_far front rest → Fails fault (many part count bytes)
unfolding many
stops part spelling Is count bytes so_far front rest (faults.Content fault) less e h =
    let left : count - so_far ≡ suc (count - (so_far + 1)) = omega arith in
    let same : behind front (many part (count - so_far) rest) ≡ Err fault = rw (left, e) refl in
    sym h.reads ∙ same
stops part spelling Is count bytes so_far front rest faults.Memory less e h = tt
stops part spelling Is count bytes so_far front rest faults.NoReport less e h = absurd e
stops part spelling Is count bytes so_far front rest faults.TooLong less e h = absurd e
stops part spelling Is count bytes so_far front rest faults.CutShort less e h = absurd e
stops part spelling Is count bytes so_far front rest faults.OtherFiles less e h = absurd e

-- nothing is left to be read
pub ends : {X : Type 0} (part : List ℕ → Part X) (spelling : X → List ℕ) (Is : X → Type 0) (count : ℕ) (bytes : List ℕ) (so_far : ℕ) (front : List X) (rest : List ℕ)
    → count ≤ so_far → IsOnItsWay part spelling Is count bytes so_far front rest → many part count bytes ≡ Ok (front, rest)
unfolding many
ends {X = X} part spelling Is count bytes so_far front rest past h =
    let none : count - so_far ≡ 0 = omega arith in
    let same : behind front (many part (count - so_far) rest) ≡ Ok (front, rest) = rw none (ap (λ (xs : List X). Ok (xs, rest)) (append-nil front)) in
    sym h.reads ∙ same
