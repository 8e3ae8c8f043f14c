-- The files of all hosts, one after the other: those that are left complete those that are there.
use Rattle.std.proofs.Common.{◌≡◌, ℕ, ◌+◌, ◌<◌, ◌≤◌, List, [], ◌∷◌, ◌++◌, length, Some, codes, refl, sym, ap, ◌∙◌, append_assoc, append-nil, arith}
use Rattle.std.specs.Prelude.{slice_get}
use Rattle.std.specs.List.{remove}
use Rattle.vd_base.specs.HostSets.{host}
use Rattle.vd_outside.specs.declared.stored.Stored.{Stored}
use Rattle.vd_execution.specs.declared.instructions.Instr.{Instr}
use Rattle.vd_hostcode.specs.declared.host_text.program.Digest.{Digest}
use Rattle.vd_hostcode.specs.Text.{program_text}
use Rattle.vd_cmd_plan.specs.Numbered.{file_name}
use Rattle.vd_cmd_compile.specs.Compiling.{host_file, host_files}

-- a list from which the first code is taken
pub took : (all rest : List (List Instr)) (code : List Instr) → slice_get all 0 ≡ Some code → rest ≡ remove all 0 → all ≡ code ∷ rest
took [] rest code is left = absurd (cc is)
took (x ∷ xs) rest code is left = let same : x ≡ code = cc is in λ i. same i ∷ sym left i

module _ (prefix : List ℕ) (hosts : List (List ℕ)) (plan : Digest) where
  abbrev text_with : ℕ → List Instr → List ℕ
  text_with number code = program_text (record { hosts = hosts; me = host number; plan = plan; code = code })

  abbrev file_with : List ℕ → List ℕ → Stored
  file_with name content = record { name = name; content = content }

  pub file_is : (number : ℕ) (code : List Instr) (name content : List ℕ) → name ≡ file_name prefix number (codes ".host") → content ≡ text_with number code → file_with name content ≡ host_file prefix hosts plan number code
  file_is number code name content named filled = λ i. file_with (named i) (filled i)

  -- of all codes these are left, and these files are there
  pub record Completes (all left : List (List Instr)) (number : ℕ) (files : List Stored) : Type 0 where
    pub files_left : files ++ host_files prefix hosts plan number left ≡ host_files prefix hosts plan 0 all
    pub count : number + length left ≡ length all

  pub one_more : (all left rest : List (List Instr)) (number : ℕ) (code : List Instr) (file : Stored) (files more : List Stored) → Completes all left number files
      → left ≡ code ∷ rest → file ≡ host_file prefix hosts plan number code → more ≡ files ++ file ∷ [] → Completes all rest (number + 1) more
  one_more all left rest number code file files more there is filled grown =
      let others = host_files prefix hosts plan (number + 1) rest in record {
        files_left =
            ap (λ (fs : List Stored). fs ++ others) (grown ∙ ap (λ (f : Stored). files ++ f ∷ []) filled)
            ∙ append_assoc files (host_file prefix hosts plan number code ∷ []) others
            ∙ ap (λ (l : List (List Instr)). files ++ host_files prefix hosts plan number l) (sym is) ∙ there.files_left;
        count = let l = ap (λ (l : List (List Instr)). length l) is in let c = there.count in omega (arith, l, c);
      }

  -- as long as not all numbers were seen, some code is left
  pub some_left : (all left seen : List (List Instr)) (number : ℕ) (files : List Stored) → seen ≡ all → Completes all left number files → number < length seen → 0 < length left
  some_left all left seen number files same there below =
      let c = there.count in let l = ap (λ (codes : List (List Instr)). length codes) same in omega (arith, c, l, below)

  pub all_seen : (all seen : List (List Instr)) (number : ℕ) → seen ≡ all → length seen ≤ number → length all ≤ number
  all_seen all seen number same le = let l = ap (λ (codes : List (List Instr)). length codes) same in omega (arith, l, le)

  none_left : (left : List (List Instr)) → length left ≡ 0 → left ≡ []
  none_left [] e = refl
  none_left (x ∷ xs) e = absurd (omega (arith, e))

  pub all_there : (all left : List (List Instr)) (number : ℕ) (files : List Stored) → length all ≤ number → Completes all left number files → files ≡ host_files prefix hosts plan 0 all
  all_there all left number files le there =
      let none : left ≡ [] = none_left left (let c = there.count in omega (arith, le, c)) in
      sym (append-nil files) ∙ ap (λ (l : List (List Instr)). files ++ host_files prefix hosts plan number l) (sym none) ∙ there.files_left
