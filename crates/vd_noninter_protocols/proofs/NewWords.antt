-- The new words that come to a host of a program tell it all clear words that come.
use Rattle.std.proofs.Common.{◌≡◌, ℕ, true, false, true≢false, List, [], length, refl, sym, ap, subst, ◌∙◌, append-nil, nat_eq}
use Rattle.std.specs.List.{list_all}
use Rattle.vd_base.specs.declared.ids.HostId.{HostId}
use Rattle.vd_base.specs.declared.ids.SlotId.{SlotId}
use Rattle.vd_base.specs.declared.protocols.Proto.{Proto}
use Rattle.vd_base.specs.Holders.{proto_in}
use Rattle.vd_core.specs.declared.normal.NormalForm.{NormalForm}
use Rattle.vd_core.specs.declared.normal.Right.{Right}
use Rattle.vd_core.specs.declared.normal.Right.TheVariants.{Lit, Turn, Copy, Apply, Input, Declassify, Endorse, Load, Get}
use Rattle.vd_constraints.specs.declared.labels.Labels.{Labels}
use Rattle.vd_constraints.specs.Scoped.{stmt_below}
use Rattle.vd_constraints.proofs.Front.{well_made_scoped}
use Rattle.vd_execution.specs.World.{Tape}
use Rattle.vd_split.specs.Block.{Block, End, Let, NewVar, NewArray, Store, Put, Output, If, For, block_of, each}
use Rattle.vd_split.specs.Validity.{Placed, RightPlaced}
use Rattle.vd_split.proofs.Front.{fold_each}
use Rattle.vd_backend_laws.specs.Given.{zero_deal}
use Rattle.vd_backend_laws.specs.Machine.{machine}
use Rattle.vd_backend_laws.specs.Suite.{suite}
use Rattle.vd_backend_laws.specs.Whole.{CanRun, inputs_of}
use Rattle.vd_backend_laws.proofs.Front.{suite_laws, zero_deals_are_valid}
use Rattle.vd_projection.specs.Assignments.{IsValidFor}
use Rattle.vd_projection.proofs.Front.{can_run, each_has, no_words}
use Rattle.vd_noninter.specs.Agreement.{Agree}
use Rattle.vd_noninter.specs.Reading.{start, SameInputs}
use Rattle.vd_noninter_protocols.specs.Assigned.{heard_words}
use Rattle.vd_noninter_protocols.specs.Hearing.{Heard, heard_in_order, heard_step}
use Rattle.vd_noninter_protocols.specs.Learning.{NewWordsTellAll, learnt_step, learnt_words}
use Rattle.vd_noninter_protocols.proofs.Learning.{InputStands, InputsStand, K, teach_block}

module _ (p : NormalForm) (l : Labels) (protocols : List Proto) (chosen : IsValidFor p l protocols) (h : HostId) where
  abbrev deal : Tape
  deal = zero_deal (inputs_of [])

  can : CanRun p (proto_in protocols) [] deal
  can = let zeros = zero_deals_are_valid (inputs_of []) no_words in can_run p l protocols chosen [] no_words deal zeros.0 zeros.1

  low : list_all (λ x. x) (each (stmt_below (length protocols)) (block_of p.body)) ≡ true
  low =
      subst (λ n. list_all (λ x. x) (each (stmt_below n) (block_of p.body)) ≡ true) (sym (each_has p l protocols chosen))
      (ap (list_all (λ x. x)) (sym (fold_each (stmt_below (length p.slots)) p.body)) ∙ (well_made_scoped p chosen.made).named_slots)

  abbrev Stands : Block → Type 0
  Stands b = Placed (machine deal (inputs_of [])) (suite deal (inputs_of []) (length p.hosts)) (proto_in protocols) b

  right_stands : (x : SlotId) (right : Right) → RightPlaced (machine deal (inputs_of [])) (suite deal (inputs_of []) (length p.hosts)) (proto_in protocols) (proto_in protocols x.0) right → InputStands protocols h l x right
  right_stands x (Lit n) placed = tt
  right_stands x Turn placed = tt
  right_stands x (Copy y) placed = tt
  right_stands x (Apply op ys) placed = tt
  right_stands x (Input k) placed =
      let zeros = zero_deals_are_valid (inputs_of []) no_words in
      (suite_laws deal zeros.0 (inputs_of []) zeros.1 (length p.hosts)).input_stands k (proto_in protocols x.0) placed
  right_stands x (Declassify y to) placed = tt
  right_stands x (Endorse y to) placed = tt
  right_stands x (Load v) placed = tt
  right_stands x (Get v i) placed = tt

  inputs_stand : (b : Block) → Stands b → InputsStand protocols h l b
  inputs_stand End placed = tt
  inputs_stand (Let x right rest) placed = (right_stands x right placed.0, inputs_stand rest placed.1)
  inputs_stand (NewVar v y rest) placed = inputs_stand rest placed.2
  inputs_stand (NewArray v size rest) placed = inputs_stand rest placed.1
  inputs_stand (Store v y rest) placed = inputs_stand rest placed.2
  inputs_stand (Put v i y rest) placed = inputs_stand rest placed.3
  inputs_stand (Output y k offset rest) placed = inputs_stand rest placed.1
  inputs_stand (If g a b offset rest) placed = (inputs_stand a placed.1, (inputs_stand b placed.2, inputs_stand rest placed.3))
  inputs_stand (For count body rest) placed = (inputs_stand body placed.0, inputs_stand rest placed.1)

  starts : (first second : List (List ℕ)) → SameInputs (λ k. nat_eq h.0 k) first second → Agree (K protocols h l) (start p first) (start p second)
  starts first second same = record { words = λ x is. refl; arrays = λ x is. refl; inputs = same; hosts = refl; outputs = λ k is. absurd (true≢false (sym is)) }

  tells : (first second : List (List ℕ)) → SameInputs (λ k. nat_eq h.0 k) first second → learnt_words p l protocols h first ≡ learnt_words p l protocols h second → heard_words p l protocols h first ≡ heard_words p l protocols h second
  tells first second same told =
      let b = block_of p.body in
      let heard_of : (inputs : List (List ℕ)) → heard_words p l protocols h inputs ≡ heard_in_order (each (heard_step protocols h l) b) 0 (start p inputs) =
      λ inputs. ap (λ (hs : List Heard). heard_in_order hs 0 (start p inputs)) (fold_each (heard_step protocols h l) p.body) in
      let learnt_of : (inputs : List (List ℕ)) → learnt_words p l protocols h inputs ≡ heard_in_order (each (learnt_step protocols h l) b) 0 (start p inputs) =
      λ inputs. ap (λ (hs : List Heard). heard_in_order hs 0 (start p inputs)) (fold_each (learnt_step protocols h l) p.body) in
      let new : List (List ℕ) → List ℕ = λ inputs. heard_in_order (each (learnt_step protocols h l) b) 0 (start p inputs) in
      let e : new first ≡ new second = sym (learnt_of first) ∙ told ∙ learnt_of second in
      heard_of first
      ∙ (teach_block protocols h l b low (inputs_stand b can.valid) 0 (start p first) (start p second) [] [] (starts first second same) (append-nil (new first) ∙ e ∙ sym (append-nil (new second)))).heard
      ∙ sym (heard_of second)

pub new_words_tell : NewWordsTellAll
new_words_tell p l protocols chosen h first second same told = tells p l protocols chosen h first second same told
