-- Lines that were read, as a stack.
use Rattle.std.proofs.Common.{◌≡◌, ℕ, List, [], ◌∷◌, ◌++◌, reverse, refl, sym, ap, ◌∙◌}
use Rattle.std.proofs.lemmas.List.{reverse-append}
use Rattle.vd_execution.specs.declared.instructions.Line.{Line}
use Rattle.vd_choreography_reorder.specs.Joining.{line_before, joined_lines}

-- the last one first
pub on_top : (old : List Line) (l : Line) → reverse (old ++ l ∷ []) ≡ l ∷ reverse old
on_top old l = reverse-append old (l ∷ [])

module _ (most : ℕ) where
  -- lines before those that were joined
  abbrev pub onto : List Line → List Line → List Line
  onto [] done = done
  onto (l ∷ ls) done = line_before most l (onto ls done)

  onto_last : (ls : List Line) (l : Line) (done : List Line) → onto (ls ++ l ∷ []) done ≡ onto ls (line_before most l done)
  onto_last [] l done = refl
  onto_last (k ∷ ls) l done = ap (line_before most k) (onto_last ls l done)

  onto_nothing : (ls : List Line) → onto ls [] ≡ joined_lines most ls
  onto_nothing [] = refl
  onto_nothing (l ∷ ls) = ap (line_before most l) (onto_nothing ls)

  pub begun : (all stack : List Line) → stack ≡ [] → onto all (reverse stack) ≡ joined_lines most all
  begun all stack none = ap (λ s. onto all (reverse s)) none ∙ onto_nothing all

  pub one_read : (all left rest : List Line) (l : Line) (stack new : List Line) → left ≡ rest ++ l ∷ [] → reverse new ≡ line_before most l (reverse stack)
      → onto left (reverse stack) ≡ joined_lines most all → onto rest (reverse new) ≡ joined_lines most all
  one_read all left rest l stack new is read so_far = ap (onto rest) read ∙ sym (onto_last rest l (reverse stack)) ∙ ap (λ ls. onto ls (reverse stack)) (sym is) ∙ so_far
