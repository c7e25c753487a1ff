-- What the tests on a row say of what it has as a source and wants as a debit, one law for each way through them.
use mathlib.Core.Path.{◌≡◌, refl, sym, ◌∙◌}
use mathlib.Core.Bool.{Bool, true, false, not, cond, ◌&&◌}
use Prim.Native.Nat.{ℕ}
use mathlib.Core.List.{List}
use borrow.Author.Tests.{eq-eqb, ne_eqb, eqb-true}
use Rattle.lists.specs.Lists.{only}
use Rattle.rules.specs.Rows.{Row, remaining, source, debit, toll, held, source_of, payable, payable_toll, payable_rest, kind_toll}
use Rattle.settlement.specs.declared.Rank.{Rank}
use Rattle.settlement.specs.declared.Rank.TheVariants.{Tolls, FeesAndReversals}
use Rattle.settlement.specs.Settling.{in_rank, of_rank}

-- ---- a debit of a rank, by its kind

toll-wants : (r : Row) (b w : Bool) (n : ℕ) → toll r ≡ b → cond (b && not w) n 0 ≡ cond ((debit r && not w) && toll r) n 0
toll-wants r true true n e = rw (eqb-true r.kind kind_toll e)
toll-wants r true false n e = rw (eqb-true r.kind kind_toll e)
toll-wants r false w n e = go (debit r && not w) (toll r) e
  where
    go : (x y : Bool) → y ≡ false → ◌≡◌ {A = ℕ} 0 (cond (x && y) n 0)
    go true y e = rw e
    go false y e = refl

rest-wants : (d t b w : Bool) (n : ℕ) → d && not t ≡ b → cond (b && not w) n 0 ≡ cond ((d && not w) && not t) n 0
rest-wants true true b true n e = rw (← e)
rest-wants true true b false n e = rw (← e)
rest-wants true false b true n e = rw (← e)
rest-wants true false b false n e = rw (← e)
rest-wants false t b w n e = rw (← e)

-- n is the row's account, read before the rest of it
module _ (x : Row) (n a : ℕ) (k : n ≡ x.account) where
  pub no-source-of-others : (n ≡ a → ⊥) → 0 ≡ only (source_of a) remaining x
  unfolding only source_of
  no-source-of-others m = rw (ne_eqb x.account a (λ e. m (k ∙ e)))

  pub no-debit-of-others : (q : Rank) (rows : List Row) → (n ≡ a → ⊥) → 0 ≡ only (of_rank q rows a) remaining x
  unfolding only of_rank payable_toll payable_rest payable
  no-debit-of-others Tolls rows m = rw (ne_eqb x.account a (λ e. m (k ∙ e)))
  no-debit-of-others FeesAndReversals rows m = rw (ne_eqb x.account a (λ e. m (k ∙ e)))

  -- it is the account's, and r is the row
  module _ (h : n ≡ a) (r : Row) (e : r ≡ x) where
    pub source-has : (b : Bool) → source r ≡ b → cond b (remaining r) 0 ≡ only (source_of a) remaining x
    unfolding only source_of
    source-has b s = rw (eq-eqb x.account a (sym k ∙ h), ← e, s)

    module _ (rows : List Row) where
      pub debit-wants : (q : Rank) (b w : Bool) → in_rank q r ≡ b → held rows r ≡ w → cond (b && not w) (remaining r) 0 ≡ only (of_rank q rows a) remaining x
      unfolding only in_rank of_rank payable_toll payable_rest payable
      debit-wants Tolls b w d l = rw (eq-eqb x.account a (sym k ∙ h), ← e, l) (toll-wants r b w (remaining r) d)
      debit-wants FeesAndReversals b w d l = rw (eq-eqb x.account a (sym k ∙ h), ← e, l) (rest-wants (debit r) (toll r) b w (remaining r) d)

      pub no-debit : (q : Rank) → in_rank q r ≡ false → 0 ≡ only (of_rank q rows a) remaining x
      no-debit q d = debit-wants q false (held rows r) d refl
