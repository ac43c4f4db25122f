-- A kind of cells and a kind of layouts, by what their interfaces say of them. Assumes nothing.
use Rattle.cells.specs.declared.nullable.Nullable as nullable
use Rattle.layouts.specs.declared.edge_type.EdgeType as edge_type

-- cells of C, which mean weights of W
abbrev pub Kind : Type 0 → Type 0 → Type 1
Kind C W = nullable.Ghosts C W

-- where pairs have their cells
abbrev pub Shape : Type 0 → Type 1
Shape L = edge_type.Ghosts L
