-- One direction of a link: all frames that were ever sent in it, oldest first, and the signals that they offer.
use Rattle.std.specs.Prelude.{◌≡◌, ℕ, ◌+◌, ◌-◌, ◌<◌, ◌≤◌, Bool, true, ◌&&◌, ◌||◌, not, nat_eq, nat_le, if◌then◌else◌}
use Rattle.std.specs.Prelude.{List, [], ◌∷◌, ◌++◌, length, slice_get, All, Some}
use Rattle.signal.specs.declared.signal.Signal.{Signal}
use Rattle.signal.specs.declared.frame.Frame.{Frame}
use Rattle.signal.specs.declared.frame.Frame.TheVariants.{Hello, Data, Ack, Refuse}

-- what is offered with one more frame: a Data of this incarnation with the next number brings its signal
abbrev pub with_offered : (incarnation : ℕ) → List Signal → Frame → List Signal
with_offered incarnation offered (Hello _) = offered
with_offered incarnation offered (Data i n signal) =
    if nat_eq i incarnation && nat_eq n (length offered + 1) then offered ++ signal ∷ [] else offered
with_offered incarnation offered (Ack _ _) = offered
with_offered incarnation offered (Refuse _ _) = offered

-- and with more of them
abbrev pub offered_with : (incarnation : ℕ) → List Signal → List Frame → List Signal
offered_with incarnation offered [] = offered
offered_with incarnation offered (frame ∷ frames) =
    offered_with incarnation (with_offered incarnation offered frame) frames

-- the signals that a direction offered in an incarnation, in order
abbrev pub offered_in : (incarnation : ℕ) → List Frame → List Signal
offered_in incarnation frames = offered_with incarnation [] frames

-- a frame that brings no signal where this many were offered
abbrev pub is_old : (incarnation count : ℕ) → Frame → Bool
is_old incarnation count (Hello _) = true
is_old incarnation count (Data i n _) = not (nat_eq i incarnation) || nat_le n count
is_old incarnation count (Ack _ _) = true
is_old incarnation count (Refuse _ _) = true

-- a frame that, if it is of this incarnation, carries what was offered under its number, or tells at most this number
-- of signals taken
abbrev pub IsGenuine : (incarnation : ℕ) → List Signal → (most : ℕ) → Frame → Type 0
IsGenuine incarnation offered most (Hello hello) = hello.incarnation ≡ incarnation → hello.last_taken ≤ most
IsGenuine incarnation offered most (Data i n signal) =
    i ≡ incarnation → (0 < n) × (slice_get offered (n - 1) ≡ Some signal)
IsGenuine incarnation offered most (Ack i n) = i ≡ incarnation → n ≤ most
IsGenuine incarnation offered most (Refuse i _) = Unit {0}

-- a direction in which each frame is so, by all that it offered
abbrev pub IsGenuineDirection : (incarnation most : ℕ) → List Frame → Type 0
IsGenuineDirection incarnation most frames = All (IsGenuine incarnation (offered_in incarnation frames) most) frames
