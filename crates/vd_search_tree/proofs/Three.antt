-- A scanner of one of three bytes.
use Rattle.std.proofs.Common.{◌≡◌, ℕ, Bool, true, false, cond, Ok, Err, List, [], ◌∷◌, ◌++◌, refl, ap, ◌∙◌, subst, ◌⊎◌, inl, inr}
use Rattle.std.specs.Prelude.{◌==◌}
use Rattle.std.proofs.lemmas.Bool.{eqb-true, eq-eqb}
use Rattle.vd_search_tree.specs.declared.search_certificate.certificate.Certificate.{Certificate}
use Rattle.vd_search_tree.specs.Scan.{Scanner, choice_of_three}
use Rattle.vd_search_tree.proofs.Scans.{Texts, Stops, Scans, BehindByte}

abbrev pub OneOfThree : ℕ → Texts → ℕ → Texts → ℕ → Texts → Texts
OneOfThree a one b two e three c bytes = BehindByte a one c bytes ⊎ (BehindByte b two c bytes ⊎ BehindByte e three c bytes)

clash : (b : ℕ) (tail : List ℕ) → [] ≡ b ∷ tail → ⊥
clash b tail is = cc

heads : (b c : ℕ) (xs ys : List ℕ) → b ∷ xs ≡ c ∷ ys → b ≡ c
heads b c xs ys is = cc

module _ (a : ℕ) (first : Scanner) (one : Texts) (b : ℕ) (second : Scanner) (two : Texts) (e : ℕ) (third : Scanner) (three : Texts)
    (second_differs : (b == a) ≡ false) (third_differs : (e == a) ≡ false) (last_differ : (e == b) ≡ false) (s : Scans first one) (t : Scans second two) (u : Scans third three) where
  abbrev chosen : Scanner
  chosen = choice_of_three a first b second e third

  abbrev Chosen : Texts
  Chosen = OneOfThree a one b two e three

  -- what is done with a byte, by what it is
  abbrev at : Bool → Bool → Bool → ℕ → Scanner
  at x y z d bytes = cond x (first bytes) (cond y (second bytes) (cond z (third bytes) (Err (d ∷ bytes))))

  at_first : (rest : List ℕ) → chosen (a ∷ rest) ≡ first rest
  at_first rest = ap (λ x. at x (a == b) (a == e) a rest) (eq-eqb a a refl)

  at_second : (rest : List ℕ) → chosen (b ∷ rest) ≡ second rest
  at_second rest = ap (λ x. at x (b == b) (b == e) b rest) second_differs ∙ ap (λ y. at false y (b == e) b rest) (eq-eqb b b refl)

  at_third : (rest : List ℕ) → chosen (e ∷ rest) ≡ third rest
  at_third rest = ap (λ x. at x (e == b) (e == e) e rest) third_differs ∙ ap (λ y. at false y (e == e) e rest) last_differ ∙ ap (λ z. at false false z e rest) (eq-eqb e e refl)

  given_at : (d : ℕ) (bytes : List ℕ) (c : Certificate) (x y z : Bool) → (d == a) ≡ x → (d == b) ≡ y → (d == e) ≡ z → at x y z d bytes ≡ Ok c → Chosen c (d ∷ bytes)
  given_at d bytes c true y z is_a is_b is_e is = inl (record { rest = bytes; text = ap (λ f. f ∷ bytes) (eqb-true d a is_a); holds = s.given bytes c is })
  given_at d bytes c false true z is_a is_b is_e is = inr (inl (record { rest = bytes; text = ap (λ f. f ∷ bytes) (eqb-true d b is_b); holds = t.given bytes c is }))
  given_at d bytes c false false true is_a is_b is_e is = inr (inr (record { rest = bytes; text = ap (λ f. f ∷ bytes) (eqb-true d e is_e); holds = u.given bytes c is }))
  given_at d bytes c false false false is_a is_b is_e is = cc

  given_chosen : (bytes : List ℕ) (c : Certificate) → chosen bytes ≡ Ok c → Chosen c bytes
  given_chosen [] c is = cc
  given_chosen (d ∷ bytes) c is = given_at d bytes c (d == a) (d == b) (d == e) refl refl refl is

  back_chosen : (bytes : List ℕ) (c : Certificate) → Chosen c bytes → chosen bytes ≡ Ok c
  back_chosen bytes c (inl h) = ap chosen h.text ∙ at_first h.rest ∙ s.back h.rest c h.holds
  back_chosen bytes c (inr (inl h)) = ap chosen h.text ∙ at_second h.rest ∙ t.back h.rest c h.holds
  back_chosen bytes c (inr (inr h)) = ap chosen h.text ∙ at_third h.rest ∙ u.back h.rest c h.holds

  stops_at_byte : (d : ℕ) (bytes rest : List ℕ) (x y z : Bool) → (d == a) ≡ x → (d == b) ≡ y → (d == e) ≡ z → at x y z d bytes ≡ Err rest → Stops chosen Chosen (d ∷ bytes) rest
  stops_at_byte d bytes rest true y z is_a is_b is_e is =
      let stop = s.stops bytes rest is in
      record {
        front = a ∷ stop.front;
        are = λ i. eqb-true d a is_a i ∷ stop.are i;
        c = stop.c;
        more = stop.more;
        begins = inl (record { rest = stop.front ++ stop.more; text = refl; holds = stop.begins });
        same = λ f tail behind has. at_first (stop.front ++ f ∷ behind) ∙ stop.same f tail behind has;
      }
  stops_at_byte d bytes rest false true z is_a is_b is_e is =
      let stop = t.stops bytes rest is in
      record {
        front = b ∷ stop.front;
        are = λ i. eqb-true d b is_b i ∷ stop.are i;
        c = stop.c;
        more = stop.more;
        begins = inr (inl (record { rest = stop.front ++ stop.more; text = refl; holds = stop.begins }));
        same = λ f tail behind has. at_second (stop.front ++ f ∷ behind) ∙ stop.same f tail behind has;
      }
  stops_at_byte d bytes rest false false true is_a is_b is_e is =
      let stop = u.stops bytes rest is in
      record {
        front = e ∷ stop.front;
        are = λ i. eqb-true d e is_e i ∷ stop.are i;
        c = stop.c;
        more = stop.more;
        begins = inr (inr (record { rest = stop.front ++ stop.more; text = refl; holds = stop.begins }));
        same = λ f tail behind has. at_third (stop.front ++ f ∷ behind) ∙ stop.same f tail behind has;
      }
  stops_at_byte d bytes rest false false false is_a is_b is_e is =
      let left : d ∷ bytes ≡ rest = cc in
      record {
        front = [];
        are = left;
        c = s.some_c;
        more = a ∷ s.some_text;
        begins = inl (record { rest = s.some_text; text = refl; holds = s.some });
        same = λ f tail behind has.
            subst (λ g. chosen (g ∷ behind) ≡ Err (g ∷ behind)) (heads d f bytes tail (left ∙ has))
            (ap (λ x. at x (d == b) (d == e) d behind) is_a ∙ ap (λ y. at false y (d == e) d behind) is_b ∙ ap (λ z. at false false z d behind) is_e);
      }

  stops_chosen : (bytes rest : List ℕ) → chosen bytes ≡ Err rest → Stops chosen Chosen bytes rest
  stops_chosen [] rest is =
      let none : [] ≡ rest = cc in
      record {
        front = [];
        are = none;
        c = s.some_c;
        more = a ∷ s.some_text;
        begins = inl (record { rest = s.some_text; text = refl; holds = s.some });
        same = λ f tail behind has. absurd (clash f tail (none ∙ has));
      }
  stops_chosen (d ∷ bytes) rest is = stops_at_byte d bytes rest (d == a) (d == b) (d == e) refl refl refl is

  pub scans_one_of_three : Scans (choice_of_three a first b second e third) (OneOfThree a one b two e three)
  scans_one_of_three = record {
    given = given_chosen;
    back = back_chosen;
    stops = stops_chosen;
    some_c = s.some_c;
    some_text = a ∷ s.some_text;
    some = inl (record { rest = s.some_text; text = refl; holds = s.some });
  }
