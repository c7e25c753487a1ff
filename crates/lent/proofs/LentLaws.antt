-- The same tables, from one call to the next.
use mathlib.Core.Path.{refl, ◌∙◌}
use Rattle.lent.specs.declared.TablesMut.{TablesMut}
use Rattle.lent.specs.Lent.{SameTables}

-- nothing is called
pub same-none : (t : TablesMut) → SameTables t t
same-none t = (refl, refl, refl, refl, refl, refl)

-- one call after another
pub same-same : (t u v : TablesMut) → SameTables t u → SameTables u v → SameTables t v
same-same t u v m n = (
  m.0 ∙ n.0,
  m.1 ∙ n.1,
  m.2 ∙ n.2,
  n.3 ∙ m.3,
  n.4 ∙ m.4,
  n.5 ∙ m.5,
)
