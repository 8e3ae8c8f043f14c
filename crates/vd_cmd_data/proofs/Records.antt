-- The records that a reader gives in turn are those of the definition.
use Rattle.std.proofs.Common.{◌≡◌, ℕ, zero, suc, ◌+◌, ◌≤◌, Bool, true, false, List, [], ◌∷◌, ◌++◌, length, Option, Some, None, refl, sym, ap, subst, ◌∙◌, arith}
use Rattle.csv.specs.Machine.{Read, ends_at_end, field_after, fields_after, is_end, next_record, step}
use Rattle.csv.specs.Reading.{AreRecords, Reached, default_config, records, records_from, records_next}
use Rattle.csv.specs.declared.parser.Config.{Config}
use Rattle.csv.specs.declared.parser.State.{State}
use Rattle.csv.specs.declared.parser.State.TheVariants as st

module _ (cfg : Config) where
  -- what is left behind a record is no longer than what was there
  no_longer : (xs : List ℕ) (s : State) (fields : List (List ℕ)) (field : List ℕ) (p : Read) → next_record cfg s fields field xs ≡ Some p → length p.2 ≤ length xs
  unfolding next_record
  no_longer [] s fields field p is = by (ends_at_end s) refl
    where
      by : (b : Bool) → ends_at_end s ≡ b → length p.2 ≤ 0
      by true e =
          let got : ◌≡◌ {A = Option Read} (Some (fields ++ (field ∷ []), st.StartRecord, [])) (Some p) = rw e at is in
          let same : ◌≡◌ {A = Read} (fields ++ (field ∷ []), st.StartRecord, []) p = cc got in
          subst (λ (q : Read). length q.2 ≤ 0) same (omega arith)
      by false e = let none : ◌≡◌ {A = Option Read} None (Some p) = rw e at is in absurd (cc none)
  no_longer (c ∷ rest) s fields field p is =
      by (is_end (step cfg s c).1) refl (λ more. no_longer rest (step cfg s c).0 (fields_after (step cfg s c).1 fields field) (field_after (step cfg s c).1 c field) p more)
    where
      by : (b : Bool) → is_end (step cfg s c).1 ≡ b
          → (next_record cfg (step cfg s c).0 (fields_after (step cfg s c).1 fields field) (field_after (step cfg s c).1 c field) rest ≡ Some p → length p.2 ≤ length rest)
          → length p.2 ≤ length (c ∷ rest)
      by true e on =
          let got : ◌≡◌ {A = Option Read} (Some (fields_after (step cfg s c).1 fields field, (step cfg s c).0, rest)) (Some p) = rw e at is in
          let same : ◌≡◌ {A = Read} (fields_after (step cfg s c).1 fields field, (step cfg s c).0, rest) p = cc got in
          subst (λ (q : Read). length q.2 ≤ length (c ∷ rest)) same (omega arith)
      by false e on =
          let more : next_record cfg (step cfg s c).0 (fields_after (step cfg s c).1 fields field) (field_after (step cfg s c).1 c field) rest ≡ Some p = rw e at is in
          let le = on more in
          omega (arith, le)

  -- where there is a byte, it is shorter
  shorter : (c : ℕ) (rest : List ℕ) (s : State) (fields : List (List ℕ)) (field : List ℕ) (p : Read) → next_record cfg s fields field (c ∷ rest) ≡ Some p → length p.2 ≤ length rest
  unfolding next_record
  shorter c rest s fields field p is = by (is_end (step cfg s c).1) refl
    where
      by : (b : Bool) → is_end (step cfg s c).1 ≡ b → length p.2 ≤ length rest
      by true e =
          let got : ◌≡◌ {A = Option Read} (Some (fields_after (step cfg s c).1 fields field, (step cfg s c).0, rest)) (Some p) = rw e at is in
          let same : ◌≡◌ {A = Read} (fields_after (step cfg s c).1 fields field, (step cfg s c).0, rest) p = cc got in
          subst (λ (q : Read). length q.2 ≤ length rest) same (omega arith)
      by false e =
          let more : next_record cfg (step cfg s c).0 (fields_after (step cfg s c).1 fields field) (field_after (step cfg s c).1 c field) rest ≡ Some p = rw e at is in
          no_longer rest (step cfg s c).0 (fields_after (step cfg s c).1 fields field) (field_after (step cfg s c).1 c field) p more

  nothing_there : next_record cfg st.StartRecord [] [] [] ≡ None
  unfolding next_record
  nothing_there = refl

  -- the record of a text that is at its end leaves nothing
  at_its_end : (s : State) (p : Read) → next_record cfg s [] [] [] ≡ Some p → next_record cfg p.1 [] [] p.2 ≡ None
  unfolding next_record
  at_its_end s p is = by (ends_at_end s) refl
    where
      by : (b : Bool) → ends_at_end s ≡ b → next_record cfg p.1 [] [] p.2 ≡ None
      by true e =
          let got : ◌≡◌ {A = Option Read} (Some ([] ++ ([] ∷ []), st.StartRecord, [])) (Some p) = rw e at is in
          let same : ◌≡◌ {A = Read} ([] ++ ([] ∷ []), st.StartRecord, []) p = cc got in
          subst (λ (q : Read). next_record cfg q.1 [] [] q.2 ≡ None) same nothing_there
      by false e = let none : ◌≡◌ {A = Option Read} None (Some p) = rw e at is in absurd (cc none)

  none_next : (n : ℕ) (s : State) (xs : List ℕ) → next_record cfg s [] [] xs ≡ None → records_from cfg n s xs ≡ []
  unfolding records_from
  none_next zero s xs none = refl
  none_next (suc n) s xs none = ap (λ (o : Option Read). records_next (records_from cfg n) o) none

  -- nothing is reached from where there is no record but the same place
  none_reached : (rows : List (List (List ℕ))) (s s2 : State) (xs ys : List ℕ) → next_record cfg s [] [] xs ≡ None → Reached cfg s xs rows s2 ys → rows ≡ []
  unfolding Reached
  none_reached [] s s2 xs ys none reached = refl
  none_reached (r ∷ rows) s s2 xs ys none reached = let wrong : ◌≡◌ {A = Option Read} None (Some reached.0) = sym none ∙ reached.1 in absurd (cc wrong)

  pub all_from : (rows : List (List (List ℕ))) (n : ℕ) (s : State) (xs : List ℕ) → AreRecords cfg s xs rows → length xs + 1 ≤ n → records_from cfg n s xs ≡ rows
  unfolding Reached records_from
  all_from rows zero s xs are few = absurd (omega (arith, few))
  all_from [] (suc n) s xs are few =
      let none : next_record cfg s [] [] xs ≡ None = rw (are.2.0, are.2.1) are.3 in
      ap (λ (o : Option Read). records_next (records_from cfg n) o) none
  all_from (r ∷ rows) (suc n) s xs are few =
      let p : Read = are.2.0 in
      ap (λ (o : Option Read). records_next (records_from cfg n) o) are.2.1
      ∙ ap (λ (l : List (List (List ℕ))). p.0 ∷ l) (behind xs are few (λ less. all_from rows n p.1 p.2 (are.0, are.1, are.2.3, are.3) less))
      ∙ ap (λ (x : List (List ℕ)). x ∷ rows) (sym are.2.2)
    where
      behind : (zs : List ℕ) (known : AreRecords cfg s zs (r ∷ rows)) → length zs + 1 ≤ suc n
          → (length known.2.0.2 + 1 ≤ n → records_from cfg n known.2.0.1 known.2.0.2 ≡ rows) → records_from cfg n known.2.0.1 known.2.0.2 ≡ rows
      behind [] known enough on =
          let none = at_its_end s known.2.0 known.2.1 in
          none_next n known.2.0.1 known.2.0.2 none ∙ sym (none_reached rows known.2.0.1 known.0 known.2.0.2 known.1 none known.2.3)
      behind (c ∷ more) known enough on = let less = shorter c more s [] [] known.2.0 known.2.1 in on (omega (arith, less, enough))

pub are_records : (rows : List (List (List ℕ))) (xs : List ℕ) → AreRecords default_config st.StartRecord xs rows → rows ≡ records default_config xs
are_records rows xs are = sym (all_from default_config rows (length xs + 1) st.StartRecord xs are (omega arith))
