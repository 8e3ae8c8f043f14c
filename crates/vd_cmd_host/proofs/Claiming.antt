-- A mark that is taken.
use Rattle.std.proofs.Common.{arith, ◌≡◌, ◌∙◌, ℕ, Bool, true, List, [], ◌∷◌, ◌++◌, Some, Result, Ok, refl, sym, ap, subst, if◌then◌else◌, bytes_eq}
use Rattle.std.proofs.lemmas.Slice.Eq.{bytes_eq-Decides}
use Rattle.vd_base.specs.declared.faults.CallFault.{CallFault}
use Rattle.vd_outside.specs.Files.{Contents, with_content}
use Rattle.vd_outside.specs.Marks as outside
use Rattle.vd_outside.specs.Marks.{MarksView, Draws}
use Rattle.vd_outside.specs.declared.outside_marks.marks.MarksCall.{MarksCall}
use Rattle.vd_outside.specs.declared.outside_marks.marks.MarksCall.TheVariants.{Claim}
use Rattle.vd_cmd.specs.declared.command.HostWords.{HostWords}
use Rattle.vd_hostcode.specs.declared.host_text.program.HostProgram.{HostProgram}
use Rattle.vd_cmd_host.specs.Marking.{Claims, mark_name, mark_of, mark_text}

-- what is put at a name stands there
put : (files : Contents) (name bytes : List ℕ) → with_content files name (Some bytes) name ≡ Some bytes
put files name bytes = ap (λ (b : Bool). if b then Some bytes else files name) ((bytes_eq-Decides name name).1 refl)

module _ (words : HostWords) (id : List ℕ) (program : HostProgram) (before mid now : MarksView) (seed : List ℕ) (draws : Draws before mid (Ok seed)) where
  taken : outside.Claims words.deal (mark_name id program.me.0) (mark_text id program) mid now (Ok true) → Claims words id program before now (Ok (record { name = mark_name id program.me.0; seed = seed }))
  taken claims = record {
    later = let first = draws.later in let second = claims.later in omega (arith, first, second);
    ends = tt;
    cause = tt;
    still_told = λ told. claims.still_told (draws.still_told told);
    fresh = λ told. sym (ap (λ (m : Contents). m (mark_of words id program)) (draws.taken told)) ∙ (claims.takes (draws.still_told told)).0;
    marked = λ told. ap (λ (m : Contents). m (mark_of words id program)) (claims.takes (draws.still_told told)).1 ∙ put mid.taken (mark_of words id program) (mark_text id program);
    alone = λ told. (claims.takes (draws.still_told told)).1 ∙ ap (λ (m : Contents). with_content m (mark_of words id program) (Some (mark_text id program))) (draws.taken told);
    kept = λ told. tt;
    asked = λ told. claims.asked (draws.still_told told) ∙ ap (λ (calls : List MarksCall). calls ++ Claim (mark_of words id program) ∷ []) (draws.asked told);
    asked_until = λ told. tt;
    name = refl;
    drawn = λ told. draws.next told ∙ ap (λ (more : List (List ℕ)). seed ∷ more) (sym (claims.draws (draws.still_told told)));
    used = λ told name e. absurd (cc e);
  }

  -- the same by the bytes of which the call speaks
  pub taken_by : (beside name text given bytes : List ℕ) (result : Result Bool CallFault) → beside ≡ words.deal → given ≡ name → bytes ≡ text
      → name ≡ mark_name id program.me.0 → text ≡ mark_text id program → result ≡ Ok true
      → outside.Claims beside given bytes mid now result → Claims words id program before now (Ok (record { name = name; seed = seed }))
  taken_by beside name text given bytes result deal same_name same_text is_name is_text new claims =
      let one = subst (λ (l : List ℕ). outside.Claims l given bytes mid now result) deal claims in
      let two = subst (λ (l : List ℕ). outside.Claims words.deal l bytes mid now result) (same_name ∙ is_name) one in
      let three = subst (λ (l : List ℕ). outside.Claims words.deal (mark_name id program.me.0) l mid now result) (same_text ∙ is_text) two in
      let four = subst (λ (r : Result Bool CallFault). outside.Claims words.deal (mark_name id program.me.0) (mark_text id program) mid now r) new three in
      subst (λ (l : List ℕ). Claims words id program before now (Ok (record { name = l; seed = seed }))) (sym is_name) (taken four)
