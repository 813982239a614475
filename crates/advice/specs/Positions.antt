-- A position as the code has it.
use Rattle.rules.specs.Positions.{Position}
use Rattle.advice.specs.declared.position.Position.{Position as Found}

abbrev pub position_in : Found → Position
position_in found = record { line = found.line; column = found.column }
