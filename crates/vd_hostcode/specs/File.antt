-- The file of a host's program: what it says, and its one text.
use Rattle.std.specs.Prelude.{◌≡◌, ℕ, ◌<◌, ◌≤◌, Bool, true, ◌&&◌, not, List, [], ◌∷◌, ◌++◌, length, codes, if◌then◌else◌}
use Rattle.std.specs.List.{list_any}
use Rattle.vd_base.specs.Lexical.{is_name}
use Rattle.vd_base.specs.Names.{is_among}
use Rattle.vd_base.specs.Limits.{most_hosts}
use Rattle.vd_base_codec.specs.Digits.{IsKey}
use Rattle.vd_hostcode.specs.declared.host_text.blocks.Arrays.{Arrays}
use Rattle.vd_hostcode.specs.declared.host_text.blocks.Arrays.TheVariants as arrays
use Rattle.vd_hostcode.specs.Words.{is_array_word}
use Rattle.vd_hostcode.specs.Text.{version, names_line, number_line, plan_line}
use Rattle.vd_hostcode.specs.Lines.{Line, lines_text, start, Leads}

pub record File : Type 0 where
  pub hosts : List (List ℕ)
  pub me : ℕ
  pub plan : List ℕ
  pub lines : List Line

abbrev pub has_arrays : List Line → Bool
has_arrays ls = list_any (λ l. is_array_word l.word) ls

abbrev pub file_text : File → List ℕ
file_text f = codes "viaduct-host " ++ (version (has_arrays f.lines) ++ (names_line f.hosts ++ (number_line f.me ++ (plan_line f.plan ++ lines_text f.lines))))

-- names of which each is none of those before it
abbrev pub new_name : List (List ℕ) → List ℕ → Bool
new_name earlier name = is_name name && not (is_among earlier name)

abbrev pub AreNew : List (List ℕ) → List (List ℕ) → Type 0
AreNew earlier [] = Unit {0}
AreNew earlier (x ∷ xs) = (new_name earlier x ≡ true) × AreNew (earlier ++ x ∷ []) xs

-- what may come of instructions on arrays, by the version
abbrev pub from_version : Bool → Arrays
from_version has = if has then arrays.Owed else arrays.Never

-- a file that the grammar has
pub record IsFile (f : File) : Type 0 where
  pub names : AreNew [] f.hosts
  pub some : 1 ≤ length f.hosts
  pub few : length f.hosts ≤ most_hosts
  pub me : f.me < length f.hosts
  pub plan : IsKey f.plan
  pub lines : Leads (start (from_version (has_arrays f.lines))) f.lines
