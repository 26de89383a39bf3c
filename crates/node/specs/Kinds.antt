-- Which kind of frame it is.
use Rattle.signal.specs.declared.frame.Frame.{Frame}
use Rattle.signal.specs.declared.frame.Frame.TheVariants.{Hello, Data, Ack, Refuse}

abbrev pub IsHello : Frame → Type 0
IsHello (Hello _) = Unit {0}
IsHello (Data _ _ _) = ⊥
IsHello (Ack _ _) = ⊥
IsHello (Refuse _ _) = ⊥

abbrev pub IsData : Frame → Type 0
IsData (Hello _) = ⊥
IsData (Data _ _ _) = Unit {0}
IsData (Ack _ _) = ⊥
IsData (Refuse _ _) = ⊥
