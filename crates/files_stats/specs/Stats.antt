-- The text of the file that `--stats` saves.
use Rattle.std.specs.Prelude.{ℕ, List, [], ◌++◌, codes, Bool, Option, None, Some, eqb}
use Rattle.std.specs.List.{starts_with}
use Rattle.std.specs.Fmt.{decimal}
use Rattle.wires_traffic.specs.declared.counts.Counts.{Counts}
use Rattle.wires_traffic.specs.declared.frame_counts.FrameCounts.{FrameCounts}
use Rattle.wires_traffic.specs.declared.traffic.Traffic.{Traffic}
use Rattle.files_stats.specs.declared.stats.Phases.{Phases}
use Rattle.files_stats.specs.declared.stats.Stats.{Stats}

-- a key with its number
abbrev pub line_text : List ℕ → ℕ → List ℕ
line_text key value = key ++ (codes " = " ++ (decimal value ++ codes "\n"))

-- how long each phase took
abbrev pub phases_text : Phases → List ℕ
phases_text phases =
    codes "\n[milliseconds]\n" ++ (line_text (codes "loading") phases.loading
    ++ (line_text (codes "running") phases.running ++ (line_text (codes "telling") phases.telling
    ++ line_text (codes "ending") phases.ending)))

-- the signals of each kind that went for the first time
abbrev pub signals_text : FrameCounts → List ℕ
signals_text frames =
    line_text (codes "net") frames.net ++ (line_text (codes "ltc") frames.ltc
    ++ (line_text (codes "tag") frames.tag ++ line_text (codes "msg") frames.msg))

-- signals that went before, and frames that are no signals
abbrev pub others_text : FrameCounts → List ℕ
others_text frames =
    line_text (codes "again") frames.again ++ (line_text (codes "hello") frames.hello
    ++ (line_text (codes "ack") frames.ack ++ line_text (codes "refuse") frames.refuse))

-- the frames of each kind
abbrev pub frames_text : FrameCounts → List ℕ
frames_text frames = signals_text frames ++ others_text frames

-- what nodes sent that are called so
abbrev pub sent_text : List ℕ → Traffic → List ℕ
sent_text name sent =
    codes "\n[" ++ (name ++ (codes ".sent]\n" ++ (line_text (codes "sends") sent.calls
    ++ (line_text (codes "bytes") sent.bytes ++ (line_text (codes "batches") sent.batches
    ++ frames_text sent.frames)))))

-- what came to them
abbrev pub received_text : List ℕ → Traffic → List ℕ
received_text name received =
    codes "\n[" ++ (name ++ (codes ".received]\n" ++ (line_text (codes "reads") received.calls
    ++ (line_text (codes "bytes") received.bytes ++ frames_text received.frames))))

-- what goes neither one way nor the other
abbrev pub own_text : (connections grants rows : ℕ) → List ℕ
own_text connections grants rows =
    line_text (codes "connections") connections ++ (line_text (codes "grants") grants ++ line_text (codes "rows") rows)

-- what the workers of nodes counted that are called so, and how many grants and rows there were
abbrev pub node_text : List ℕ → (grants rows : ℕ) → Counts → List ℕ
node_text name grants rows counts =
    codes "\n[" ++ (name ++ (codes "]\n" ++ (own_text counts.connections grants rows
    ++ (sent_text name counts.sent ++ received_text name counts.received))))

-- the coordinator's: each TAG that it sends for the first time is a grant, and each LTC that comes for the first time
-- is of a row
abbrev pub coordinator_text : Option Counts → List ℕ
coordinator_text None = []
coordinator_text (Some counts) =
    node_text (codes "coordinator") counts.sent.frames.tag counts.received.frames.ltc counts

-- the federates', likewise: to them TAGs come, and they send LTCs
abbrev pub federates_text : Option Counts → List ℕ
federates_text None = []
federates_text (Some counts) =
    node_text (codes "federates") counts.received.frames.tag counts.sent.frames.ltc counts

-- with this each of these files begins: a line that says who saved it, and the first key
abbrev pub beginning : List ℕ
beginning = codes "# saved by fedrun --stats\ncommand = \""

-- whether bytes begin so
abbrev pub is_stats_text : List ℕ → Bool
is_stats_text bytes = starts_with eqb bytes beginning

-- the whole text
abbrev pub stats_text : Stats → List ℕ
stats_text stats =
    beginning ++ (stats.command.now ++ (codes "\"\n" ++ (line_text (codes "status") stats.status
    ++ (phases_text stats.phases ++ (coordinator_text stats.coordinator ++ federates_text stats.federates)))))
