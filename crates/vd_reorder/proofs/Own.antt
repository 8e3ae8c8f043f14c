-- Two acts of one host.
use Rattle.std.proofs.Common.{◌≡◌, ℕ, List, refl, sym, ap, ap₂, ◌∙◌}
use Rattle.vd_execution.specs.declared.instructions.Action.{Action}
use Rattle.vd_execution.specs.Registers.{Registers, written}
use Rattle.vd_execution.specs.Step.{Source, Cursors, Need, Nothing, Item, Packet, Unequal, Ended, advanced, word_printed}
use Rattle.vd_execution.specs.Joint.{supplied, with_print}
use Rattle.vd_execution.proofs.Front.{put_same}
use Rattle.vd_reorder.specs.Neighbours.{IsPlain, ListsDiffer}
use Rattle.vd_reorder.specs.Turning.{Does, gone_by}
use Rattle.vd_reorder.specs.ChoreographyCommutingNeighbours.{ActsAtOne}
use Rattle.vd_reorder.proofs.Alike.{act_look}
use Rattle.vd_reorder.proofs.Apart.{looked, new_look, alike_by, near_turn, agrees}
use Rattle.vd_reorder.proofs.Instances.{at_other, others_words, both_advanced}

ones_words : (items : Source → ℕ → List ℕ) (c : Cursors) (m n : Need) → ListsDiffer m n → supplied items (advanced c n) m ≡ supplied items c m
ones_words items c Nothing n d = refl
ones_words items c (Item s) Nothing d = refl
ones_words items c (Item s) (Item r) d = ap (items s) (at_other c r s d.0)
ones_words items c (Item s) (Packet p k) d = refl
ones_words items c (Item s) (Unequal x y) d = refl
ones_words items c (Item s) Ended d = refl
ones_words items c (Packet p k) n d = refl
ones_words items c (Unequal x y) n d = refl
ones_words items c Ended n d = refl

-- a plain act, as it is seen
pub plain_look : (items : Source → ℕ → List ℕ) (a : Action) (n : Need) → IsPlain a n → (f : Registers) (c : Cursors) (p : List ℕ)
    → act_look items a (f, (c, p)) ≡ (written f a (supplied items c n), (advanced c n, p))
plain_look items a n plain f c p =
    ap (λ (m : Need). (written f a (supplied items c m), (advanced c m, with_print p (word_printed f a)))) (plain.needs f)
    ∙ ap (λ o. (written f a (supplied items c n), (advanced c n, with_print p o))) (plain.silent f)

module _ (items : Source → ℕ → List ℕ) (a b : Action) (m n : Need) (pa : IsPlain a m) (pb : IsPlain b n) (differ : ListsDiffer m n)
    (same : (f : Registers) (xs ys : List ℕ) → written (written f a xs) b ys ≡ written (written f b ys) a xs) where
  both_looks : (f : Registers) (c : Cursors) (p : List ℕ) → act_look items b (act_look items a (f, (c, p))) ≡ act_look items a (act_look items b (f, (c, p)))
  both_looks f c p =
      ap (act_look items b) (plain_look items a m pa f c p)
      ∙ plain_look items b n pb (written f a (supplied items c m)) (advanced c m) p
      ∙ ap (λ (ys : List ℕ). (written (written f a (supplied items c m)) b ys, (advanced (advanced c m) n, p))) (others_words items c m n differ)
      ∙ ap₂ (λ (g : Registers) (k : Cursors). (g, (k, p))) (same f (supplied items c m) (supplied items c n)) (both_advanced c m n)
      ∙ sym (ap (λ (xs : List ℕ). (written (written f b (supplied items c n)) a xs, (advanced (advanced c n) m, p))) (ones_words items c m n differ))
      ∙ sym (plain_look items a m pa (written f b (supplied items c n)) (advanced c n) p)
      ∙ sym (ap (act_look items a) (plain_look items b n pb f c p))

pub acts_at_one : ActsAtOne
acts_at_one h a b m n sa sb pa pb differ same = record {
  alike = alike_by (Does h a) (Does h b) (λ t l. near_turn t (Does h a) (Does h b) l h
      (new_look t (Does h b) (looked t (Does h a) l)) (new_look t (Does h a) (looked t (Does h b) l))
      (ap (act_look (t h) b) (put_same l h (act_look (t h) a (l h)))
      ∙ both_looks (t h) a b m n pa pb differ same (l h).0 (l h).1.0 (l h).1.1
      ∙ sym (ap (act_look (t h) a) (put_same l h (act_look (t h) b (l h))))));
  first = λ t w compares. agrees b sb (w h).registers;
  second = λ t w compares. agrees a sa (gone_by t (Does h b) w h).registers;
}
