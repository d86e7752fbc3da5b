pub mod PlanEffects
