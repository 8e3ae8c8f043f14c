-- What is hashed for the digests by which the programs of a plan know each other.
use Rattle.std.specs.Prelude.{◌≡◌, ◌≢◌, ◌<◌, ◌^◌, ◌⊎◌, ◌++◌, ℕ, List, length}
use Rattle.sha2.specs.Sha256.{sha256}
use Rattle.vd_core.specs.declared.normal.NormalForm.{NormalForm}
use Rattle.vd_hostcode.specs.declared.host_text.program.Digest.{Digest}
use Rattle.vd_search_stages.specs.declared.optimum.Assignment.{Assignment}
use Rattle.vd_cmd_choice.specs.Choice.{printed_at}
use Rattle.vd_cmd_compile.specs.Compiling.{plan_for}
use Rattle.vd_cmd_compile_early.specs.Compiling.{early_plan_for}

abbrev pub digest_of : List ℕ → Digest
digest_of bytes = record { bytes = sha256 bytes }

-- one source is the other with the beginning of what is printed for that one behind it
abbrev pub RunsOn : (text printed other others : List ℕ) → Type 0
RunsOn text printed other others = (rest : List ℕ) × (other ≡ text ++ rest) × (printed ≡ rest ++ others)

-- Bytes are hashed for each plan, in program order and in an order that waits less. Of one source they tell what is printed of the
-- choice; with one printed choice they tell the source; and whatever sources and choices are, they tell the order. Where both may differ
-- they tell both of sources of one length; of others, one source would have to run on into what is printed for the other.
pub record PlansTell : Type 0 where
  pub hashed : (text printed : List ℕ) → List ℕ
  pub early_hashed : (text printed : List ℕ) → List ℕ
  pub plan : (text printed : List ℕ) → plan_for text printed ≡ digest_of (hashed text printed)
  pub early_plan : (text printed : List ℕ) → early_plan_for text printed ≡ digest_of (early_hashed text printed)
  pub choice : (text printed other : List ℕ) → hashed text printed ≡ hashed text other → printed ≡ other
  pub early_choice : (text printed other : List ℕ) → early_hashed text printed ≡ early_hashed text other → printed ≡ other
  pub source : (text other printed : List ℕ) → hashed text printed ≡ hashed other printed → text ≡ other
  pub early_source : (text other printed : List ℕ) → early_hashed text printed ≡ early_hashed other printed → text ≡ other
  pub both : (text printed other others : List ℕ) → length text ≡ length other → hashed text printed ≡ hashed other others
      → (text ≡ other) × (printed ≡ others)
  pub early_both : (text printed other others : List ℕ) → length text ≡ length other → early_hashed text printed ≡ early_hashed other others
      → (text ≡ other) × (printed ≡ others)
  pub else_runs_on : (text printed other others : List ℕ) → hashed text printed ≡ hashed other others
      → RunsOn text printed other others ⊎ RunsOn other others text printed
  pub early_else_runs_on : (text printed other others : List ℕ) → early_hashed text printed ≡ early_hashed other others
      → RunsOn text printed other others ⊎ RunsOn other others text printed
  pub order : (program : NormalForm) (a : Assignment) (text other printed : List ℕ) → a.cost < 2 ^ 64
      → hashed text (printed_at program a) ≢ early_hashed other printed
