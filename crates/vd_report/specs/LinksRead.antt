-- Who sends and who receives, as a person reads it off the line of a link.
use Rattle.std.specs.Prelude.{◌≡◌, ◌≢◌, ℕ, ◌<◌, ◌^◌, true, ◌==◌, if◌then◌else◌, List, [], ◌∷◌, length, map, slice_index_or, decimal}
use Rattle.vd_base.specs.Lexical.{is_name}
use Rattle.vd_base.specs.Words.{AreWords}
use Rattle.vd_report.specs.LineWords.{line_words}
use Rattle.vd_report.specs.ReportLines.{link_line}

-- what stands before the first `>`, and what stands behind it
abbrev pub before_arrow : List ℕ → List ℕ
before_arrow [] = []
before_arrow (b ∷ bytes) = if b == 62 then [] else b ∷ before_arrow bytes

abbrev pub behind_arrow : List ℕ → List ℕ
behind_arrow [] = []
behind_arrow (b ∷ bytes) = if b == 62 then bytes else behind_arrow bytes

-- The first word of the line has the sender's name before its `>` and the receiver's behind it. Then stands how many words were
-- sent, and then the words.
pub record NamesLink (line sender receiver words : List ℕ) : Type 0 where
  pub link : List ℕ
  pub read : line_words line ≡ link ∷ decimal (length words) ∷ map decimal words
  pub sends : before_arrow link ≡ sender
  pub receives : behind_arrow link ≡ receiver

-- the two names of a link are names, and so many words can be sent
pub record CanBeRead (sender receiver words : List ℕ) : Type 0 where
  pub from : is_name sender ≡ true
  pub to : is_name receiver ≡ true
  pub said : AreWords words
  pub few : length words < 2 ^ 64

abbrev pub host_name : List (List ℕ) → ℕ → List ℕ
host_name hosts h = slice_index_or hosts h []

abbrev pub said_by : List (List (List ℕ)) → (from to : ℕ) → List ℕ
said_by talk from to = slice_index_or (slice_index_or talk from []) to []

-- the line of a link names the host that sends first, and then the one that receives
abbrev pub LinksAreRead : Type 0
LinksAreRead =
    (hosts : List (List ℕ)) (talk : List (List (List ℕ))) (from to : ℕ) → from ≢ to
    → CanBeRead (host_name hosts from) (host_name hosts to) (said_by talk from to)
    → NamesLink (link_line hosts talk from to) (host_name hosts from) (host_name hosts to) (said_by talk from to)
