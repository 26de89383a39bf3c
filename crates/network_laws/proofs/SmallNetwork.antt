-- The laws on a small network: the gateway is lawful, and consistency is no empty word.
use Rattle.std.proofs.Common.{◌≡◌, ◌<◌, [], ◌∷◌, true, refl, ap, arith, All, pos}
use Rattle.std.specs.Prelude.{AllPairs}
use Rattle.std.proofs.lemmas.List.Kept.{AllPairs-cons}
use Rattle.tag.specs.LogicalTime.{LogicalTime}
use Rattle.tag.specs.Total.{some_delay}
use Rattle.network.specs.Event.{Event, outside}
use Rattle.network.specs.Lawful.{IsLawful, IsConnected, IsExternal, AreForDifferentSlots, IsOwn}
use Rattle.network.specs.Examples.{gateway, at}
use Rattle.network_laws.specs.Consistent.{IsConsistent, Where}
use Rattle.network.proofs.Items.{no_pairs}
use Rattle.network_laws.proofs.Lists.{from_each}

-- the events for the gateway itself come at two times
two_times : (a b : LogicalTime) → a.time ≡ 0 → b.time ≡ 1 → a ≡ b → ⊥
two_times a b p q e = let same : a.time ≡ b.time = ap (λ (x : LogicalTime). x.time) e in omega arith

abbrev e1 : Event
e1 = outside (at 10000000 0) 1 2 (pos 0)

abbrev e2 : Event
e2 = outside (at 0 4294967295) 0 1 (pos 1)

abbrev e3 : Event
e3 = outside (at 1 0) 0 1 (pos 2)

gateway_external_apart : AllPairs AreForDifferentSlots gateway.external
gateway_external_apart =
    AllPairs-cons AreForDifferentSlots e1 (e2 ∷ e3 ∷ []) (from_each (AreForDifferentSlots e1) (e2 ∷ e3 ∷ []) ((λ t r q. absurd (omega arith)), ((λ t r q. absurd (omega arith)), tt)))
    (AllPairs-cons AreForDifferentSlots e2 (e3 ∷ []) (from_each (AreForDifferentSlots e2) (e3 ∷ []) ((λ t r q. two_times e2.tag e3.tag refl refl t), tt))
    (AllPairs-cons AreForDifferentSlots e3 [] (from_each (AreForDifferentSlots e3) [] tt) (no_pairs AreForDifferentSlots)))

pub gateway_is_lawful : IsLawful gateway
gateway_is_lawful = record {
  some_reactor = omega arith;
  few_reactors = omega arith;
  stop = record { time = omega arith; microstep = omega arith };
  connected = from_each (IsConnected gateway) gateway.connections
      (record { source = omega arith; port = omega arith; target = omega arith; slot = omega arith; delay = some_delay (0, omega arith, refl) }, tt);
  one_source = λ i j d a b. absurd (omega arith);
  ports_apart = from_each (λ c. All (λ e. e.reactor ≡ c.target → e.slot ≡ c.slot → ⊥) gateway.external) gateway.connections
      (from_each (λ e. e.reactor ≡ 1 → e.slot ≡ 1 → ⊥) gateway.external ((λ p q. absurd (omega arith)), ((λ p q. absurd (omega arith)), ((λ p q. absurd (omega arith)), tt))), tt);
  external = from_each (IsExternal gateway) gateway.external (
    record { reactor = omega arith; slot = omega arith; tag = record { time = omega arith; microstep = omega arith }; in_time = refl },
    (
      record { reactor = omega arith; slot = omega arith; tag = record { time = omega arith; microstep = omega arith }; in_time = refl },
      (record { reactor = omega arith; slot = omega arith; tag = record { time = omega arith; microstep = omega arith }; in_time = refl }, tt),
    ),
  );
  external_apart = gateway_external_apart;
  ranks = λ i h. h;
  ranks_apart = λ i j a b e. e;
  ranks_rise = from_each (λ c. c.delay ≡ at 0 0 → gateway.rank c.source < gateway.rank c.target) gateway.connections ((λ e. omega arith), tt);
  schedulings = λ reactor states present. from_each (IsOwn gateway reactor) [] tt;
}

-- if all is settled, a trace in which nothing happened isn't consistent: the gateway should have seen its first event
pub nothing_is_not_consistent : IsConsistent gateway (λ i. []) (Where (λ i t. true)) → ⊥
nothing_is_not_consistent c =
    let taken = c.complete 0 (at 0 4294967295) (record { reactor = omega arith; finite = record { time = omega arith; microstep = omega arith }; in_time = refl }) refl (1, pos 1, refl) in
    cc
