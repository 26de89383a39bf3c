-- What a network keeps, so that the laws hold of it. Every legal federation with its programs and inputs gives such a
-- network.
use Rattle.std.specs.Prelude.{◌≡◌, ◌≢◌, ℕ, ◌<◌, ◌≤◌, ℤ, List, All, AllPairs, IsTrue, Option}
use Rattle.tag.specs.LogicalTime.{IsFinite, origin, is_at_most}
use Rattle.tag.specs.Total.{IsConnectionDelay}
use Rattle.network.specs.declared.limits.TheConstants.{MOST_REACTORS}
use Rattle.network.specs.Connection.{Connection}
use Rattle.network.specs.Event.{Event}
use Rattle.network.specs.Network.{Network, Scheduling}

-- both ends of a connection are there, and its delay is none or that of an `after`
pub record IsConnected (n : Network) (c : Connection) : Type 0 where
  pub source : c.source < n.reactors
  pub port : c.port < n.ports c.source
  pub target : c.target < n.reactors
  pub slot : c.slot < n.slots c.target
  pub delay : IsConnectionDelay c.delay

-- two connections end at different slots
abbrev pub HaveDifferentEnds : Connection → Connection → Type 0
HaveDifferentEnds c d = c.target ≡ d.target → c.slot ≡ d.slot → ⊥

-- an external event is at a slot that is there, up to stop
pub record IsExternal (n : Network) (e : Event) : Type 0 where
  pub reactor : e.reactor < n.reactors
  pub slot : e.slot < n.slots e.reactor
  pub tag : IsFinite e.tag
  pub in_time : IsTrue (is_at_most e.tag n.stop)

-- two external events aren't for one slot at one tag
abbrev pub AreForDifferentSlots : Event → Event → Type 0
AreForDifferentSlots d e = d.tag ≡ e.tag → d.reactor ≡ e.reactor → d.slot ≡ e.slot → ⊥

-- a scheduling of a reactor is later than its turn, at a slot that no connection and no external event reaches. Its
-- delay is that of an `after`, which `delay` and `later` say together
pub record IsOwn (n : Network) (reactor : ℕ) (s : Scheduling) : Type 0 where
  pub slot : s.slot < n.slots reactor
  pub delay : IsConnectionDelay s.delay
  pub later : s.delay ≢ origin
  pub no_port : All (λ c. c.target ≡ reactor → c.slot ≢ s.slot) n.connections
  pub not_external : All (λ e. e.reactor ≡ reactor → e.slot ≢ s.slot) n.external

pub record IsLawful (n : Network) : Type 0 where
  pub some_reactor : 0 < n.reactors
  pub few_reactors : n.reactors ≤ MOST_REACTORS
  pub stop : IsFinite n.stop
  pub connected : All (IsConnected n) n.connections
  -- each input slot is the end of one connection at most, and has no external events
  pub one_source : AllPairs HaveDifferentEnds n.connections
  pub ports_apart : All (λ c. All (λ e. e.reactor ≡ c.target → e.slot ≢ c.slot) n.external) n.connections
  pub external : All (IsExternal n) n.external
  pub external_apart : AllPairs AreForDifferentSlots n.external
  -- ranks number the reactors, and rise along zero-delay connections
  pub ranks : (i : ℕ) → i < n.reactors → n.rank i < n.reactors
  pub ranks_apart : (i j : ℕ) → i < n.reactors → j < n.reactors → n.rank i ≡ n.rank j → i ≡ j
  pub ranks_rise : All (λ c. c.delay ≡ origin → n.rank c.source < n.rank c.target) n.connections
  -- what reactors schedule, whatever their states and whatever is present
  pub schedulings : (reactor : ℕ) (states : List ℤ) (present : ℕ → Option ℤ)
      → All (IsOwn n reactor) (n.effect reactor states present).schedulings
