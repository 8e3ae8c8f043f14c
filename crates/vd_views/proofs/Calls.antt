-- The calls of the multiplication, one after the other: what is opened is the product of the inputs.
use Rattle.std.proofs.Common.{◌≡◌, ℕ, ◌*◌, ◌%◌, ◌^◌, List, [], ◌∷◌, ◌++◌, refl, sym, ap, ap₂, subst, ◌∙◌, lit<}
use Rattle.vd_base.specs.declared.operations.Op.TheVariants as op
use Rattle.vd_base.specs.Operations.{result_of}
use Rattle.vd_base.specs.Holders.{holders}
use Rattle.vd_execution.specs.declared.instructions.Act.{Act}
use Rattle.vd_execution.specs.Registers.{put}
use Rattle.vd_execution.specs.Text.{register}
use Rattle.vd_execution.specs.World.{Tape}
use Rattle.vd_execution.specs.Deals.{IsValidDeal}
use Rattle.vd_execution.specs.Joint.{Hosts, fresh}
use Rattle.vd_execution.specs.Acts.{run_acts, ActsAgree}
use Rattle.vd_execution.specs.Gadgets.{Gadget, acts_of_gadgets, GadgetsAreTidy, IsSound}
use Rattle.vd_execution.proofs.Front.{gadgets_sound}
use Rattle.vd_duet.specs.Calls.{Places, hosts_of, Calls, Stand}
use Rattle.vd_duet.specs.Builder.{most_taken}
use Rattle.vd_duet.specs.Laws.{IsIn, IsInOne, nowhere, AreBelow, words_at, Leads, Gives, StandFor, Copies, Operand, GivesWord, BackendLaws}
use Rattle.vd_duet.proofs.Front.{gadgets_append, agree_append, tidy_append, below_later, leads_on, Since, since_start, since_on}
use Rattle.vd_backend_sharing.specs.PairCalls.{product_shares}
use Rattle.vd_words.specs.Example.{alice, bob}
use Rattle.vd_words.proofs.Front.{add_laws}
use Rattle.vd_views.proofs.Contract.{fresh_sound}
use Rattle.vd_views.specs.Product.{sums, taken_in, free_registers, first_shared, second_shared, multiplied, shown, multiplication, printed, shared_product, product_of}

-- ---- what stands goes on standing

words_later : (next next' : List ℕ) (w u : Hosts) (x : Places) → AreBelow next x → Since next w next' u → words_at u x ≡ words_at w x
words_later next next' w u [] below since = refl
words_later next next' w u (q ∷ x) below since =
    ap₂ (λ (a : ℕ) (l : List ℕ). a ∷ l) (since.kept q.0.0 q.1.0 below.0) (words_later next next' w u x below.1 since)

operand_later : (c : Calls) (next next' : List ℕ) (w u : Hosts) (x : Places) (v : ℕ) → AreBelow next x → StandFor c w x v → Since next w next' u → Operand c next' u x v
operand_later c next next' w u x v below stands since = record {
  below = below_later next next' x since.longer below;
  stands = record {
    at = stands.at;
    word = let P : List ℕ → Type 0 = λ xs. Stand c.proto xs v in subst P (sym (words_later next next' w u x below since)) stands.word;
  };
}

gadgets_agree : (t : Tape) (xs ys : List Gadget) (w : Hosts) → ActsAgree t (acts_of_gadgets xs) w → ActsAgree t (acts_of_gadgets ys) (run_acts t (acts_of_gadgets xs) w)
    → ActsAgree t (acts_of_gadgets (xs ++ ys)) w
gadgets_agree t xs ys w a b =
    let P : List Act → Type 0 = λ l. ActsAgree t l w in
    subst P (sym (gadgets_append xs ys)) (agree_append t (acts_of_gadgets xs) (acts_of_gadgets ys) w a b)

-- ---- the states

abbrev pub with_inputs_taken : Tape → Hosts
with_inputs_taken t = run_acts t (acts_of_gadgets taken_in) fresh

abbrev pub with_one_shared : Tape → Hosts
with_one_shared t = run_acts t (acts_of_gadgets first_shared.gadgets) (with_inputs_taken t)

abbrev pub with_both_shared : Tape → Hosts
with_both_shared t = run_acts t (acts_of_gadgets second_shared.gadgets) (with_one_shared t)

abbrev pub with_product : Tape → Hosts
with_product t = run_acts t (acts_of_gadgets multiplied.gadgets) (with_both_shared t)

-- ---- the calls

laws : BackendLaws sums
laws = add_laws alice bob (λ e. cc)

module _ (t : Tape) (deal : IsValidDeal t) where
  abbrev w1 : Hosts
  w1 = with_inputs_taken t

  sound1 : IsSound w1
  sound1 = gadgets_sound t deal taken_in (tt, (tt, tt)) fresh fresh_sound

  -- alice shares her input
  abbrev first_word : ℕ
  first_word = (w1 0).registers 0

  one : GivesWord sums t free_registers (IsIn ((alice, register 0) ∷ [])) first_shared w1 first_word
  one = laws.share t free_registers w1 (record { deal = deal; sound = sound1; known = (lit< tt, (lit< tt, tt)) }) alice refl (lit< tt) (register 0) (lit< tt)

  since1 : Since free_registers w1 first_shared.next one.reached
  since1 = since_on t most_taken free_registers free_registers (IsIn ((alice, register 0) ∷ [])) first_shared w1 w1 one.reached (since_start free_registers w1 sound1) one.orderly one.leads

  -- bob shares his
  abbrev second_word : ℕ
  second_word = (one.reached 1).registers 0

  two : GivesWord sums t first_shared.next (IsIn ((bob, register 0) ∷ [])) second_shared one.reached second_word
  two = laws.share t first_shared.next one.reached (record { deal = deal; sound = since1.sound; known = (lit< tt, (lit< tt, tt)) }) bob refl (lit< tt) (register 0) (lit< tt)

  since2 : Since first_shared.next one.reached second_shared.next two.reached
  since2 =
      since_on t most_taken first_shared.next first_shared.next (IsIn ((bob, register 0) ∷ [])) second_shared one.reached one.reached two.reached
      (since_start first_shared.next one.reached since1.sound) two.orderly two.leads

  -- the two are multiplied
  three : GivesWord sums t second_shared.next (IsInOne (first_shared.given ∷ second_shared.given ∷ [])) multiplied two.reached (result_of op.Mul (first_word ∷ second_word ∷ []))
  three =
      laws.apply t second_shared.next two.reached (record { deal = deal; sound = since2.sound; known = (lit< tt, (lit< tt, tt)) }) op.Mul refl tt
      (first_shared.given ∷ second_shared.given ∷ []) (first_word ∷ second_word ∷ []) refl (
        operand_later sums first_shared.next second_shared.next one.reached two.reached first_shared.given first_word one.orderly.below one.is since2,
        (record { below = two.orderly.below; stands = two.is }, tt),
      )

  -- and the product is opened
  four : Gives most_taken t multiplied.next (IsIn multiplied.given) shown three.reached
      (λ u. (hosts_of shown.given ≡ holders sums.proto) × Copies u shown.given (result_of op.Mul (first_word ∷ second_word ∷ [])))
  unfolding product_shares
  four =
      laws.show_all t multiplied.next three.reached (record { deal = deal; sound = three.leads.sound; known = (lit< tt, (lit< tt, tt)) })
      multiplied.given (result_of op.Mul (first_word ∷ second_word ∷ [])) (record { below = three.orderly.below; stands = three.is })

  -- ---- all of them

  pub whole_tidy : GadgetsAreTidy shared_product
  whole_tidy =
      tidy_append taken_in (multiplication ++ printed) (tt, (tt, tt))
      (tidy_append multiplication printed
      (tidy_append first_shared.gadgets (second_shared.gadgets ++ (multiplied.gadgets ++ shown.gadgets)) one.orderly.tidy
      (tidy_append second_shared.gadgets (multiplied.gadgets ++ shown.gadgets) two.orderly.tidy
      (tidy_append multiplied.gadgets shown.gadgets three.orderly.tidy four.orderly.tidy)))
      (tt, (tt, tt)))

  multiplication_leads : Leads t free_registers nowhere multiplication w1 four.reached
  multiplication_leads =
      leads_on t free_registers first_shared.next nowhere first_shared.gadgets (second_shared.gadgets ++ (multiplied.gadgets ++ shown.gadgets)) w1 one.reached four.reached
      one.orderly.longer one.leads
      (leads_on t first_shared.next second_shared.next nowhere second_shared.gadgets (multiplied.gadgets ++ shown.gadgets) one.reached two.reached four.reached
      two.orderly.longer two.leads
      (leads_on t second_shared.next multiplied.next nowhere multiplied.gadgets shown.gadgets two.reached three.reached four.reached three.orderly.longer three.leads four.leads))

  pub whole_agrees : ActsAgree t (acts_of_gadgets shared_product) fresh
  whole_agrees =
      gadgets_agree t taken_in (multiplication ++ printed) fresh (tt, (tt, tt))
      (gadgets_agree t multiplication printed w1 multiplication_leads.agrees (tt, (tt, tt)))

  -- ---- the product

  same_product : result_of op.Mul (first_word ∷ second_word ∷ []) ≡ product_of t
  unfolding put
  same_product = ap (λ (z : ℕ). (first_word * z) % 2 ^ 32) (since1.kept 1 0 (lit< tt))

  arrives : with_product t ≡ three.reached
  arrives =
      ap (λ (z : Hosts). run_acts t (acts_of_gadgets multiplied.gadgets) (run_acts t (acts_of_gadgets second_shared.gadgets) z)) one.leads.runs
      ∙ ap (λ (z : Hosts). run_acts t (acts_of_gadgets multiplied.gadgets) z) two.leads.runs ∙ three.leads.runs

  -- the parts that are opened stand for the product of the inputs
  pub product_stands : StandFor sums (with_product t) multiplied.given (product_of t)
  product_stands =
      let P : ℕ → Type 0 = λ v. StandFor sums three.reached multiplied.given v in
      let Q : Hosts → Type 0 = λ w. StandFor sums w multiplied.given (product_of t) in
      subst Q (sym arrives) (subst P same_product three.is)
