-- What a command declares, and its limits.
use Rattle.std.specs.Prelude.{ℕ, ◌≤◌, List, length}
use Rattle.kb_core.specs.declared.parameter.Param.{Param}

-- the maximum number of parameters of a command
abbrev pub parameter_limit : ℕ
parameter_limit = 8

-- the maximum cost of a run: instructions plus the costs of native commands
abbrev pub budget_limit : ℕ
budget_limit = 1000000000

-- the maximum nesting depth of calls
abbrev pub depth_limit : ℕ
depth_limit = 64

-- the parameters, the maximum cost of a run, and the maximum nesting depth of its calls
pub record Declaration : Type 0 where
  pub params : List Param
  pub budget : ℕ
  pub depth : ℕ

pub record AreWithinLimits (params : List Param) (budget depth : ℕ) : Type 0 where
  pub few : length params ≤ parameter_limit
  pub some_budget : 1 ≤ budget
  pub cheap : budget ≤ budget_limit
  pub shallow : depth ≤ depth_limit
