-- A picture as an SVG file: first the lines, then the boxes, marks and texts.
use Rattle.std.specs.Prelude.{ℕ, zero, suc, ◌+◌, ◌-◌, ◌/◌, Bool, ◌||◌, ◌==◌, if◌then◌else◌, List, [], ◌++◌, length}
use Rattle.std.specs.Prelude.{slice_index_or, string_bytes, codes}
use Rattle.std.specs.Fmt.{decimal}
use Rattle.std.specs.List.{flat_map}
use Rattle.files_pictures.specs.Escaped.{escaped}
use Rattle.files_pictures.specs.declared.shapes.Point.{Point}
use Rattle.files_pictures.specs.declared.shapes.Area.{Area}
use Rattle.files_pictures.specs.declared.shapes.Ink.{Ink}
use Rattle.files_pictures.specs.declared.shapes.Ink.TheVariants as inks
use Rattle.files_pictures.specs.declared.shapes.Ending.{Ending}
use Rattle.files_pictures.specs.declared.shapes.Ending.TheVariants as endings
use Rattle.files_pictures.specs.declared.shapes.Stroke.{Stroke}
use Rattle.files_pictures.specs.declared.shapes.Line.{Line}
use Rattle.files_pictures.specs.declared.shapes.Anchor.{Anchor}
use Rattle.files_pictures.specs.declared.shapes.Anchor.TheVariants.{Begins, Centred, Ends}
use Rattle.files_pictures.specs.declared.shapes.Lettering.{Lettering}
use Rattle.files_pictures.specs.declared.shapes.Label.{Label}
use Rattle.files_pictures.specs.declared.shapes.Sign.{Sign}
use Rattle.files_pictures.specs.declared.shapes.Sign.TheVariants as signs
use Rattle.files_pictures.specs.declared.shapes.Mark.{Mark}
use Rattle.files_pictures.specs.declared.shapes.Picture.{Picture}
use Rattle.files_pictures.specs.declared.shapes.TheConstants.{INKS}
use Rattle.files_pictures.specs.declared.svg.TheConstants.{STYLE}

-- the name of an ink
unfoldable pub ink_name : Ink → List ℕ
ink_name inks.Plain = codes "plain"
ink_name inks.Faint = codes "faint"
ink_name inks.Net = codes "net"
ink_name inks.Ltc = codes "ltc"
ink_name inks.Tag = codes "tag"
ink_name inks.Msg = codes "msg"
ink_name inks.Ack = codes "ack"
ink_name inks.Hello = codes "hello"
ink_name inks.Refused = codes "refused"

-- its colour
unfoldable pub ink_colour : Ink → List ℕ
ink_colour inks.Plain = codes "#24292f"
ink_colour inks.Faint = codes "#6e7781"
ink_colour inks.Net = codes "#0969da"
ink_colour inks.Ltc = codes "#8250df"
ink_colour inks.Tag = codes "#1a7f37"
ink_colour inks.Msg = codes "#bc4c00"
ink_colour inks.Ack = codes "#8c959f"
ink_colour inks.Hello = codes "#0e7490"
ink_colour inks.Refused = codes "#cf222e"

-- how a mark is filled
unfoldable pub sign_class : Sign → List ℕ
sign_class signs.Port = codes "sign solid"
sign_class signs.Startup = codes "sign solid"
sign_class signs.Row = codes "sign solid"
sign_class sign = codes "sign"

-- the shape of a mark, around its middle
unfoldable pub sign_shape : Sign → List ℕ
sign_shape signs.Port = codes "M-4 -4L4 0L-4 4Z"
sign_shape signs.Startup = codes "M-4 0A4 4 0 1 1 4 0A4 4 0 1 1 -4 0Z"
sign_shape signs.Timer = codes "M-6 0A6 6 0 1 1 6 0A6 6 0 1 1 -6 0ZM0 -4V0L3 2"
sign_shape signs.Action = codes "M0 -6L6 5H-6Z"
sign_shape signs.Physical = codes "M0 -6L6 5H-6ZM-3 1H3"
sign_shape signs.Reaction = codes "M-8 -5H1L5 0L1 5H-8L-4 0Z"
sign_shape signs.Row = codes "M-4 -4H4V4H-4Z"
sign_shape signs.Cut = codes "M-8 0L-3 -5L3 5L8 0"

-- on which side of its point a text stands
unfoldable pub anchor_name : Anchor → List ℕ
anchor_name Begins = codes "start"
anchor_name Centred = codes "middle"
anchor_name Ends = codes "end"

-- the file's first element, of this width and height
unfoldable pub svg_text : ℕ → ℕ → List ℕ
svg_text width height =
    codes "<svg xmlns='http://www.w3.org/2000/svg' viewBox='0 0 "
    ++ (decimal width ++ (codes " " ++ (decimal height ++ codes "'")))

-- how large it is shown
unfoldable pub size_text : ℕ → ℕ → List ℕ
size_text width height = codes " width='" ++ (decimal width ++ (codes "' height='" ++ (decimal height ++ codes "'>\n")))

-- what it stands on
unfoldable pub ground_text : ℕ → ℕ → List ℕ
ground_text width height =
    codes "<path d='M0 0H" ++ (decimal width ++ (codes "V" ++ (decimal height ++ codes "H0Z' style='fill:#fff'/>\n")))

-- how all looks
unfoldable pub style_text : List ℕ
style_text = STYLE.now

-- the beginning of an arrow's head of this name
unfoldable pub marker_text : List ℕ → List ℕ
marker_text name = codes "<marker id='" ++ (name ++ codes "'")

-- its size, and how it lies
unfoldable pub marker_size_text : List ℕ
marker_size_text =
    codes " viewBox='0 0 8 8' refX='8' refY='4' markerWidth='8' markerHeight='8' markerUnits='userSpaceOnUse' orient='auto'>"

-- its shape, of this colour, and its end
unfoldable pub marker_shape_text : List ℕ → List ℕ
marker_shape_text colour = codes "<path d='M0 1L8 4L0 7Z' style='fill:" ++ (colour ++ codes "'/></marker>\n")

-- the head of arrows of an ink
unfoldable pub arrow_head_text : Ink → List ℕ
arrow_head_text ink = marker_text (ink_name ink) ++ (marker_size_text ++ marker_shape_text (ink_colour ink))

-- the heads of arrows of these inks
unfoldable pub arrow_heads_text : List Ink → List ℕ
arrow_heads_text inks = flat_map arrow_head_text inks

-- the heads of arrows, where they are declared
unfoldable pub heads_text : List ℕ
heads_text = codes "<defs>\n" ++ (arrow_heads_text INKS ++ codes "</defs>\n")

-- what stands before all shapes
unfoldable pub beginning_text : ℕ → ℕ → List ℕ
beginning_text width height =
    svg_text width height ++ (size_text width height ++ (style_text ++ (ground_text width height ++ heads_text)))

-- how dashes are asked for
abbrev pub dash_text : Bool → List ℕ
dash_text is_dashed = if is_dashed then codes " class='dashed'" else []

-- a line's end in the head of this name
unfoldable pub marker_end_text : List ℕ → List ℕ
marker_end_text name = codes " marker-end='url(#" ++ (name ++ codes ")'")

-- the head in which a line ends
unfoldable pub head_text : Ending → Ink → List ℕ
head_text endings.Head ink = marker_end_text (ink_name ink)
head_text ending ink = []

-- the cross in which a line ends
unfoldable pub cross_text : Ending → List ℕ
cross_text endings.Cross = codes "m-4 -4l8 8m0 -8l-8 8"
cross_text ending = []

-- how a line looks
unfoldable pub stroke_text : Stroke → List ℕ
stroke_text stroke =
    dash_text stroke.is_dashed ++ (codes " stroke='"
    ++ (ink_colour stroke.ink ++ (codes "'" ++ head_text stroke.ending stroke.ink)))

-- a letter of a path and two numbers
unfoldable pub pair_text : List ℕ → ℕ → ℕ → List ℕ
pair_text letter x y = letter ++ (decimal x ++ (codes " " ++ decimal y))

-- from one point to another in a swing, level at both
unfoldable pub swing_text : Point → Point → List ℕ
swing_text from to =
    let middle = from.x / 2 + to.x / 2 in
    pair_text (codes "C") middle from.y ++ (pair_text (codes " ") middle to.y ++ pair_text (codes " ") to.x to.y)

-- whether two points have a coordinate in common
abbrev pub is_level : Point → Point → Bool
is_level from to = (from.x == to.x) || (from.y == to.y)

-- straight to a point
abbrev pub straight_text : Point → List ℕ
straight_text to = pair_text (codes "L") to.x to.y

-- from one point to another where lines bend
unfoldable pub bend_text : Point → Point → List ℕ
bend_text from to = if is_level from to then straight_text to else swing_text from to

-- from one point to the next
unfoldable pub leg_text : Bool → Point → Point → List ℕ
leg_text bends from to = if bends then bend_text from to else straight_text to

-- the point at a place
abbrev pub point_at : List Point → ℕ → Point
point_at points place = slice_index_or points place (record { x = 0; y = 0 })

-- where a line begins
abbrev pub start_text : Point → List ℕ
start_text at = pair_text (codes "M") at.x at.y

-- how a line goes on to the point at a place
unfoldable pub point_text : Bool → List Point → ℕ → List ℕ
point_text bends points place =
    if place == 0 then start_text (point_at points place)
    else leg_text bends (point_at points (place - 1)) (point_at points place)

-- the first ones of these texts, this many
abbrev pub first_texts : (ℕ → List ℕ) → ℕ → List ℕ
first_texts text zero = []
first_texts text (suc count) = first_texts text count ++ text count

-- the points of a line
unfoldable pub points_text : Bool → List Point → List ℕ
points_text bends points = first_texts (point_text bends points) (length points)

-- a line
unfoldable pub line_text : Line → List ℕ
line_text line =
    codes "<path" ++ (stroke_text line.stroke
    ++ (codes " d='" ++ (points_text line.bends line.points.items
    ++ (cross_text line.stroke.ending ++ codes "'/>\n"))))

-- where a box stands, and how large it is
unfoldable pub corner_text : Area → List ℕ
corner_text area = codes "<rect x='" ++ (decimal area.left ++ (codes "' y='" ++ (decimal area.top ++ codes "' rx='5'")))

unfoldable pub extent_text : Area → List ℕ
extent_text area =
    codes " width='" ++ (decimal area.width ++ (codes "' height='" ++ (decimal area.height ++ codes "'/>\n")))

-- a box
unfoldable pub box_text : Area → List ℕ
box_text area = corner_text area ++ extent_text area

-- where a mark stands
unfoldable pub spot_text : Point → List ℕ
spot_text at = codes "<path transform='translate(" ++ (decimal at.x ++ (codes " " ++ (decimal at.y ++ codes ")'")))

-- what it is
unfoldable pub sign_text : Sign → List ℕ
sign_text sign = codes " class='" ++ (sign_class sign ++ (codes "' d='" ++ (sign_shape sign ++ codes "'/>\n")))

-- a mark
unfoldable pub mark_text : Mark → List ℕ
mark_text mark = spot_text mark.at ++ sign_text mark.sign

-- how bold letters are asked for
abbrev pub bold_text : Bool → List ℕ
bold_text is_bold = if is_bold then codes " class='bold'" else []

-- where a text stands
unfoldable pub anchor_text : Point → List ℕ
anchor_text at = codes "<text x='" ++ (decimal at.x ++ (codes "' y='" ++ (decimal at.y ++ codes "'")))

-- its colour and its side, up to where it begins
unfoldable pub look_text : List ℕ → List ℕ → List ℕ
look_text colour side = codes " fill='" ++ (colour ++ (codes "' text-anchor='" ++ (side ++ codes "'>")))

-- how it looks
unfoldable pub lettering_text : Lettering → List ℕ
lettering_text look = bold_text look.is_bold ++ look_text (ink_colour look.ink) (anchor_name look.anchor)

-- a text
unfoldable pub label_text : Label → List ℕ
label_text label =
    anchor_text label.at ++ (lettering_text label.lettering ++ (escaped (string_bytes label.text) ++ codes "</text>\n"))

-- a picture
unfoldable pub picture_text : Picture → List ℕ
picture_text picture =
    beginning_text picture.width picture.height
    ++ (flat_map line_text picture.lines.items ++ (flat_map box_text picture.boxes.items
    ++ (flat_map mark_text picture.marks.items ++ (flat_map label_text picture.labels.items ++ codes "</svg>\n"))))
