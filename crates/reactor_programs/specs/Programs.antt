-- Programs for the federates of a federation, in their order.
use Rattle.std.specs.Prelude.{◌≡◌, List}
use Rattle.std.specs.List.{AllZip}
use Rattle.plan.specs.declared.draft.Federate.{Federate}
use Rattle.plan.specs.declared.draft.Draft.{Draft}
use Rattle.reactor_program.specs.Behaviour.{Behaviour, IsWellFormed}

-- as many programs as federates, each with its federate's slots
abbrev pub HaveSlotsOf : List Federate → List Behaviour → Type 0
HaveSlotsOf federates programs = AllZip (λ f b. f.slots ≡ b.slots) federates programs

-- as many programs as federates, each well formed and with its federate's slots
abbrev pub HaveProgramsOf : List Federate → List Behaviour → Type 0
HaveProgramsOf federates programs = AllZip (λ f b. (f.slots ≡ b.slots) × IsWellFormed b) federates programs

-- the programs of a federation's federates, in their order
abbrev pub AreProgramsOf : Draft → List Behaviour → Type 0
AreProgramsOf d programs = HaveProgramsOf d.federates programs
