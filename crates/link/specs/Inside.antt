use Rattle.link.specs.declared.link_end.LinkEnd.TheInside.{Inside}
use Rattle.link.specs.Image.{Image}

-- an end's image, by its fields
abbrev pub image : Inside → Image
image e = record {
  federate = e.federate;
  incarnation = e.incarnation;
  kept = e.kept.items;
  acknowledged = e.acknowledged;
  taken = e.taken;
  closed = e.closed;
  room = e.room;
}
