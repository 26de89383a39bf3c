-- A fault that is answered upward stands above too.
use Rattle.std.proofs.Common.{◌≡◌, ◌⊎◌, inl, inr, List, ℕ}
use Rattle.std.specs.Prelude.{Result, Ok, Err, IfErr}
use Rattle.loadfed_tables.specs.declared.fault.TableFault.{TableFault}
use Rattle.loadfed_tables.specs.declared.fault.TableFault.TheVariants.{WrongShape, Memory}
use Rattle.loadfed_tables.specs.TableFaults.{IsWrongAt}

-- what is more than this can't stand at the key either
pub weaker : {X Y : Type 0} (key : List ℕ) (S : X → Type 0) (T : Y → Type 0) (fault : TableFault) → ((y : Y) → T y → (x : X) × S x)
    → (fault ≡ Memory) ⊎ IsWrongAt key S fault → (fault ≡ Memory) ⊎ IsWrongAt key T fault
weaker key S T fault more (inl memory) = inl memory
weaker key S T fault more (inr wrong) = inr (record {
  told = wrong.told;
  nothing = λ y says. wrong.nothing (more y says).0 (more y says).1;
})

-- a key is answered where nothing stands that may
pub told : {X : Type 0} (key : List ℕ) (S : X → Type 0) (fault : TableFault) → ((x : X) → S x → ⊥)
    → (fault ≡ Memory) ⊎ (fault ≡ WrongShape key) → (fault ≡ Memory) ⊎ IsWrongAt key S fault
told key S fault none (inl memory) = inl memory
told key S fault none (inr is) = inr (record { told = is; nothing = none })

-- one of two faults
pub first_of : {M P Q : Type 0} → M ⊎ P → M ⊎ (P ⊎ Q)
first_of (inl memory) = inl memory
first_of (inr h) = inr (inl h)

pub second_of : {M P Q : Type 0} → M ⊎ Q → M ⊎ (P ⊎ Q)
second_of (inl memory) = inl memory
second_of (inr h) = inr (inr h)

-- want of memory alone
pub memory_alone : {A : Type 0} (Has : TableFault → Type 0) (r : Result A TableFault) → IfErr r (λ fault. fault ≡ Memory) → IfErr r (λ fault. (fault ≡ Memory) ⊎ Has fault)
memory_alone Has (Ok a) h = h
memory_alone Has (Err fault) h = inl h
