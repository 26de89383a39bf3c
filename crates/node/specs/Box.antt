-- What a caller sees of an outbox.
use Rattle.std.specs.Prelude.{◌≡◌, ℕ, ◌≤◌, false, List, length, map, get_or, slice_get, Some}
use Rattle.link.specs.Image.{Image, EndView}
use Rattle.protocol.specs.declared.post.Post.{Post}
use Rattle.node.specs.Mail.{Mail, count_for, lacks_at, lacks_room}

-- the ends and the frames; how many offers take no memory at each end; and how many more frames take none
pub record Outbox : Type 0 where
  pub mail : Mail
  pub reserved : List ℕ
  pub places : ℕ

-- the images of the ends
abbrev pub images : List EndView → List Image
images ends = map (λ e. e.image) ends

-- how many offers take no memory, end by end
abbrev pub reserves : List EndView → List ℕ
reserves ends = map (λ e. e.reserved) ends

-- how many offers take no memory at a peer's end
abbrev pub reserved_at : List ℕ → ℕ → ℕ
reserved_at reserved peer = get_or reserved peer 0

-- where a peer has an end that isn't closed, this many offers take no memory there
abbrev pub HasMemory : List Image → List ℕ → (peer count : ℕ) → Type 0
HasMemory ends reserved peer count =
    (e : Image) → slice_get ends peer ≡ Some e → e.closed ≡ false → count ≤ reserved_at reserved peer

-- nowhere it takes more memory than before
abbrev pub NoneLost : List ℕ → List ℕ → Type 0
NoneLost before after = (peer : ℕ) → reserved_at before peer ≤ reserved_at after peer

-- there is room and memory for this many signals to a peer
pub record IsReadyFor (b : Outbox) (peer count : ℕ) : Type 0 where
  pub room : lacks_at peer count b.mail.ends ≡ false
  pub memory : HasMemory b.mail.ends b.reserved peer count

-- there is room and memory for all these posts
pub record IsReady (b : Outbox) (posts : List Post) : Type 0 where
  pub room : lacks_room b.mail.ends posts ≡ false
  pub memory : (peer : ℕ) → HasMemory b.mail.ends b.reserved peer (count_for peer posts)
  pub places : length posts ≤ b.places
