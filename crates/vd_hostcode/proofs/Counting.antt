-- Static steps, counted from the end of a text to its front.
use Rattle.std.proofs.Common.{◌≡◌, ℕ, ◌+◌, ◌<◌, ◌≤◌, List, [], ◌∷◌, ◌++◌, length, take, drop, get_or, Option, Some, None, refl, sym, ap, ap₂, ◌∙◌}
use Rattle.std.proofs.lemmas.List.{drop_more, drop_all, take-append-drop}
use Rattle.vd_execution.specs.declared.instructions.Instr.{Instr}
use Rattle.vd_execution.specs.Code.{Code, Finished}
use Rattle.vd_execution.specs.Text.{Open, Reading, with_instr, read_before, read, IsCodeOf}
use Rattle.vd_hostcode.specs.declared.blocks.Behind.{Behind}
use Rattle.vd_hostcode.specs.Counts.{Counts}

abbrev reading : Code → List Open → Reading
reading c os = record { code = c; blocks = os }

-- what was counted is that of what was read from here on
pub record SoFar (code : List Instr) (left steps : ℕ) (blocks : List Behind) : Type 0 where
  pub so_far : Reading
  pub reads : read (drop left code) ≡ Some so_far
  pub counts : Counts steps blocks so_far

pub begun : (code : List Instr) (left steps : ℕ) (blocks : List Behind) → length code ≤ left → steps ≡ 0 → blocks ≡ [] → SoFar code left steps blocks
begun code left steps blocks le e f = record {
  so_far = reading Finished [];
  reads = ap read (drop_all left code le);
  counts = record { steps_are = e; blocks_are = f };
}

with_none : (i : Instr) (o : Option Reading) (q : Reading) → read_before i o ≡ Some q → (r : Reading) × (o ≡ Some r)
with_none i None q e = absurd cc
with_none i (Some r) q e = (r, refl)

-- what stands behind in a text that is read can be read
behind_reads : (front is : List Instr) (q : Reading) → read (front ++ is) ≡ Some q → (r : Reading) × (read is ≡ Some r)
behind_reads [] is q e = (q, e)
behind_reads (i ∷ front) is q e = let r = with_none i (read (front ++ is)) q e in behind_reads front is r.0 r.1

pub one_more : (code : List Instr) (c : Code) (i : Instr) (left next steps count : ℕ) (blocks new : List Behind) → IsCodeOf code c → next + 1 ≡ left → next < length code → i ≡ get_or code next i
    → ((r q : Reading) → Counts steps blocks r → with_instr i r.code r.blocks ≡ Some q → Counts count new q) → SoFar code left steps blocks → SoFar code next count new
one_more code c i left next steps count blocks new is n lt there goes s =
    let whole : read (take next code ++ drop next code) ≡ Some (reading c []) = ap read (take-append-drop next code) ∙ is in
    let q = behind_reads (take next code) (drop next code) (reading c []) whole in
    let front : drop next code ≡ i ∷ drop left code = drop_more code next i lt ∙ ap₂ (λ (j : Instr) (k : ℕ). j ∷ drop k code) (sym there) n in
    let with : with_instr i s.so_far.code s.so_far.blocks ≡ Some q.0 = ap (read_before i) (sym s.reads) ∙ ap read (sym front) ∙ q.1 in
    record { so_far = q.0; reads = q.1; counts = goes s.so_far q.0 s.counts with }
