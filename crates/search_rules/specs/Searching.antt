-- A search as its callers see it.
use Rattle.std.specs.Prelude.{◌+◌, ◌*◌, ◌^◌, ◌<◌, ◌≤◌, ℕ}
use Rattle.exact_simplex.specs.Log.{LogOf}
use Rattle.search_rules.specs.Machine.{Meaning, Rest, resting, IsLegalLog}

-- the log, the halves and nodes, the steps left, and the nodes of the problem
pub record Searching (N : Type 0) : Type 0 where
  pub log : LogOf
  pub rest : Rest
  pub steps : ℕ
  pub nodes : N

-- there is room for each step's event, and for the numbers of nodes
pub record IsWithin {N : Type 0} (s : Searching N) : Type 0 where
  pub room : s.steps ≤ s.log.spare
  pub opened : s.rest.opened + s.steps < 2 ^ 32
  pub made : s.rest.made ≤ 2 * s.rest.opened + 1
  pub some : 0 < s.rest.made

-- all opened nodes have settled, as the log says
pub record IsUnderWay {N : Type 0} (m : Meaning) (s : Searching N) : Type 0 where
  pub legal : IsLegalLog m s.log.events (resting s.rest)
  pub within : IsWithin s
